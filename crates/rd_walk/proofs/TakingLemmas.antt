-- What a line is taken for where the roster answers.
use Rattle.std.proofs.Common.{◌≡◌, ◌⊎◌, ℕ, ◌+◌, ◌≤◌, List, [], ◌∷◌, ◌++◌, Option, Result, Ok, Err, OnErr, inl, inr, refl, sym, ap, ◌∙◌, subst, arith}
use Rattle.std.proofs.lemmas.List.{append_assoc, append-nil, map-append}
use Rattle.rd_io.proofs.SinkLemmas.{appends_none, appends_on}
use Rattle.rd_base.specs.declared.limits.Limits.{Limits}
use Rattle.rd_ecl.specs.Kinds.{Kind}
use Rattle.rd_event.specs.declared.items.Line.{Line}
use Rattle.rd_rules.specs.MayFollow.{MayFollow}
use Rattle.rd_rules.specs.declared.causes.TraceCause.{TraceCause}
use Rattle.rd_walk.proofs.WalkLemmas.{bound_append, bound_one, items_more, line_judged}
use Rattle.rd_walk.specs.Analysis.{IsCutIn, IsHandedOn}
use Rattle.rd_walk.specs.Taking.{AreCutIn, AreHandedOn, BeginsAs, EndsAs, GoesAs, TakesGrammarLine, TakesTraceLine}
use Rattle.rd_walk.specs.Walk.{Entry, Saying, Walked, after, bound_from, entries_at, goes_or_ends, items, judgement_of, line_goes, trace_says}
use Rattle.rd_walk.specs.declared.analysis.Halt.{Halt}
use Rattle.rd_walk.specs.declared.walk.Taken.{Taken}
use Rattle.rd_walk.specs.declared.walk.Taken.TheVariants.{Refused}
use Rattle.rd_walk.specs.declared.walk.WalkEnd.TheVariants.{Refused as Ends}
use Rattle.rd_walk.specs.declared.walk.Walker.{Walker}
use Rattle.rd_wf.specs.Roster.{IsCallLine, RosterStandsFor, TakesBytes}
use Rattle.rd_wf.specs.declared.roster.Roster.{Roster}
use Rattle.rd_rules.specs.declared.causes.BytesRefused.{BytesRefused}
use Rattle.rd_rules.specs.declared.causes.BytesRefused.TheVariants as refused

-- a roster that doesn't accept a line stands for the same lines
pub still : (Z : Type 0) (kinds : List Kind) (limits : Limits) (lines : List Line) (bytes : List ℕ) (old new : Roster) (e : BytesRefused)
    → TakesBytes Z kinds limits lines bytes old new (Err e) → RosterStandsFor kinds old lines → RosterStandsFor kinds new lines
still Z kinds limits lines bytes old new refused.BadLine taken stands = subst (λ roster. RosterStandsFor kinds roster lines) (sym taken.1) stands
still Z kinds limits lines bytes old new (refused.Cause cause) taken stands = subst (λ roster. RosterStandsFor kinds roster lines) (sym taken.3) stands
still Z kinds limits lines bytes old new refused.NoMemory taken stands = taken.3

pub on_err_from : {T E P Q : Type 0} (r : Result T E) → OnErr r P → (P → Q) → OnErr r Q
on_err_from (Ok x) p f = tt
on_err_from (Err e) p f = f p

-- so what is taken behind that is taken
pub taken_later : {A : Type 0} (leads : List Kind → A → List Entry → A → Type 0) (text : List Kind → A → List Entry → List ℕ) (bound : List Kind → A → List Line → Line → ℕ)
    (number : ℕ) (bytes : List ℕ) (old mid new : Walker A) (written now : Option (List ℕ)) (from to : ℕ) (result : Result Taken Halt)
    → ((kinds : List Kind) (lines : List Line) → RosterStandsFor kinds old.roster lines → RosterStandsFor kinds mid.roster lines)
    → mid.limits ≡ old.limits → mid.analysis ≡ old.analysis
    → TakesTraceLine leads text bound number bytes mid new written now from to result → TakesTraceLine leads text bound number bytes old new written now from to result
taken_later leads text bound number bytes old mid new written now from to result still same_limits same_analysis line = record {
  taken = λ is kinds start before stands led behind. rw same_limits at (line.taken is kinds start before (still kinds (items before) stands) (subst (leads kinds start before) (sym same_analysis) led) behind);
  cause = line.cause;
  refused = λ is cause told kinds before stands. rw same_limits at (line.refused is cause told kinds before (still kinds (items before) stands));
  silent = λ is. rw same_analysis at (line.silent is);
  memory = λ is kinds before stands.
      let (item, says, either) = line.memory is kinds before (still kinds before stands) in
      (item, says, subst (λ (limits : Limits). IsCallLine bytes ⊎ MayFollow kinds limits before item) same_limits either);
  halted = on_err_from result line.halted (λ all kinds start before stands led behind. rw same_limits at (all kinds start before (still kinds (items before) stands) (subst (leads kinds start before) (sym same_analysis) led) behind));
}

-- ---- the items of a line, where none or one was handed on

module _ {A : Type 0} (leads : List Kind → A → List Entry → A → Type 0) (text : List Kind → A → List Entry → List ℕ) (bound : List Kind → A → List Line → Line → ℕ)
    (number : ℕ) (roster : Roster) (analysis : A) (written now : Option (List ℕ)) (from to : ℕ) (kinds : List Kind) (start : A) (before : List Entry) where
  pub handed_none : RosterStandsFor kinds roster (items before) → leads kinds start before analysis → now ≡ written → to ≡ from
      → AreHandedOn (leads kinds start) (text kinds start) (bound kinds start) kinds roster analysis written now from to before []
  unfolding bound_from
  handed_none stands led quiet still =
      let none = sym (append-nil before) in record {
        stands = subst (λ entries. RosterStandsFor kinds roster (items entries)) none stands;
        leads = subst (λ entries. leads kinds start entries analysis) none led;
        written = ([], ap (text kinds start) (append-nil before) ∙ sym (append-nil (text kinds start before)), appends_none written now quiet);
        cost = omega (arith, still);
      }

  pub handed_one : (item : Line)
      → IsHandedOn (leads kinds start) (text kinds start) (bound kinds start) kinds roster analysis written now from to before (record { number = number; item = item })
      → AreHandedOn (leads kinds start) (text kinds start) (bound kinds start) kinds roster analysis written now from to before (entries_at number (item ∷ []))
  handed_one item handed =
      let entry : Entry = record { number = number; item = item } in record {
        stands = subst (RosterStandsFor kinds roster) (sym (items_more before entry)) handed.stands;
        leads = handed.leads;
        written = handed.written;
        cost = omega (arith, handed.cost, bound_one (bound kinds start) (items before) entry);
      }

  pub cut_none : now ≡ written → to ≡ from → AreCutIn (text kinds start) (bound kinds start) written now from to before [] []
  unfolding bound_from
  cut_none quiet still =
      let same_text = ap (text kinds start) (append-nil before) in record {
        one = omega arith;
        written = ([], [], same_text ∙ sym (append-nil (text kinds start before)), appends_none written now quiet);
        told = ([], sym (same_text ∙ sym (append-nil (text kinds start before))) ∙ sym (append-nil (text kinds start (before ++ []))));
        cost = omega (arith, still);
      }

  pub cut_one : (item : Line) → IsCutIn (text kinds start) (bound kinds start) written now from to before (record { number = number; item = item })
      → AreCutIn (text kinds start) (bound kinds start) written now from to before [] (entries_at number (item ∷ []))
  cut_one item cut =
      let entry : Entry = record { number = number; item = item } in record {
        one = omega arith;
        written = cut.written;
        told = (cut.written.0, ap (λ t. t ++ cut.written.0) (sym (ap (text kinds start) (append-nil before))));
        cost = omega (arith, cut.cost, bound_one (bound kinds start) (items before) entry);
      }

-- ---- further items behind some

module _ {A : Type 0} (leads : List Kind → A → List Entry → A → Type 0) (text : List Kind → A → List Entry → List ℕ) (bound : List Kind → A → List Line → Line → ℕ)
    (kinds : List Kind) (start : A) (first : Roster) (middle : A) (written between now : Option (List ℕ)) (from halfway to : ℕ) (before said : List Entry)
    (handed : AreHandedOn (leads kinds start) (text kinds start) (bound kinds start) kinds first middle written between from halfway before said) where
  abbrev behind : List Entry
  behind = before ++ said

  costs : (more : List Entry) → to ≤ halfway + bound_from (bound kinds start) (items behind) more → to ≤ from + bound_from (bound kinds start) (items before) (said ++ more)
  costs more cost =
      let same : items behind ≡ items before ++ items said = map-append (λ (e : Entry). e.item) before said in
      let there : to ≤ halfway + bound_from (bound kinds start) (items before ++ items said) more = subst (λ lines. to ≤ halfway + bound_from (bound kinds start) lines more) same cost in
      omega (arith, there, handed.cost, bound_append (bound kinds start) (items before) said more)

  pub handed_further : (roster : Roster) (analysis : A) (more : List Entry)
      → AreHandedOn (leads kinds start) (text kinds start) (bound kinds start) kinds roster analysis between now halfway to behind more
      → AreHandedOn (leads kinds start) (text kinds start) (bound kinds start) kinds roster analysis written now from to before (said ++ more)
  handed_further roster analysis more later =
      let all = append_assoc before said more in
      let (part, is, writes) = handed.written in
      let (rest, is_rest, writes_rest) = later.written in record {
        stands = subst (λ entries. RosterStandsFor kinds roster (items entries)) all later.stands;
        leads = subst (λ entries. leads kinds start entries analysis) all later.leads;
        written = (
          part ++ rest,
          ap (text kinds start) (sym all) ∙ is_rest ∙ ap (λ t. t ++ rest) is ∙ append_assoc (text kinds start before) part rest,
          appends_on _ _ _ part rest writes writes_rest,
        );
        cost = costs more later.cost;
      }

  pub cut_further : (last : List Entry) → AreCutIn (text kinds start) (bound kinds start) between now halfway to behind [] last
      → AreCutIn (text kinds start) (bound kinds start) written now from to before said last
  cut_further last later =
      let all = append_assoc before said last in
      let (part, is, writes) = handed.written in
      let (more, rest, is_rest, writes_rest) = later.written in record {
        one = later.one;
        written = (
          part ++ more,
          rest,
          ap (text kinds start) (sym all) ∙ is_rest ∙ ap (λ t. t ++ (more ++ rest)) is ∙ append_assoc (text kinds start before) part (more ++ rest)
              ∙ ap (λ t. text kinds start before ++ t) (sym (append_assoc part more rest)),
          appends_on _ _ _ part more writes writes_rest,
        );
        told = (more, sym (append_assoc (text kinds start before) part more) ∙ ap (λ t. t ++ more) (sym is));
        cost = costs last later.cost;
      }

-- nothing was written to an output that is as before
pub wrote_none : {S : Type 0} (written : S → Option (List ℕ)) (old new : S) → new ≡ old → written new ≡ written old
wrote_none written old new same = ap written same

-- ---- a line of a trace in a grammar in which it says the same

module _ {A : Type 0} (says : Saying) (leads : List Kind → A → List Entry → A → Type 0) (text : List Kind → A → List Entry → List ℕ) (bound : List Kind → A → List Line → Line → ℕ)
    (number : ℕ) (bytes : List ℕ) (same : (before : List Line) → says before bytes ≡ trace_says before bytes) where
  -- what is judged of it
  goes_so : (kinds : List Kind) (limits : Limits) (before : List Line) (more : List Line → Walked) (r : Result Line TraceCause) → judgement_of kinds limits before bytes ≡ r
      → line_goes kinds limits number before (says before bytes) more ≡ goes_or_ends number r (λ item. more (before ++ item ∷ []))
  goes_so kinds limits before more r is =
      ap (λ said. line_goes kinds limits number before said more) (same before) ∙ line_judged kinds limits before number bytes more
      ∙ ap (λ found. goes_or_ends number found (λ item. more (before ++ item ∷ []))) is

  goes_one : (kinds : List Kind) (limits : Limits) (before : List Line) (item : Line) → judgement_of kinds limits before bytes ≡ Ok item → GoesAs says kinds limits number before bytes (item ∷ [])
  unfolding after
  goes_one kinds limits before item is more = goes_so kinds limits before more (Ok item) is

  ends_so : (kinds : List Kind) (limits : Limits) (before : List Line) (cause : TraceCause) → judgement_of kinds limits before bytes ≡ Err cause
      → EndsAs says kinds limits number before bytes [] (Ends number cause)
  unfolding after
  ends_so kinds limits before cause is more = goes_so kinds limits before more (Err cause) is

  begins_so : (kinds : List Kind) (limits : Limits) (before : List Line) → BeginsAs says kinds limits number before bytes ([] ++ [])
  unfolding after
  begins_so kinds limits before more = (line_goes kinds limits number before (says before bytes) more, refl)

  pub taken_as : (old new : Walker A) (written now : Option (List ℕ)) (from to : ℕ) (result : Result Taken Halt) → (result ≡ Ok Refused → now ≡ written)
      → TakesTraceLine leads text bound number bytes old new written now from to result → TakesGrammarLine says leads text bound number bytes old new written now from to result
  taken_as old new written now from to result quiet line = record {
    taken = λ is kinds start before stands led behind.
        let (item, judged, handed) = line.taken is kinds start before stands led behind in
        (item ∷ [], λ none. cc, goes_one kinds old.limits (items before) item judged, handed_one leads text bound number new.roster new.analysis written now from to kinds start before item handed);
    cause = line.cause;
    refused = λ is cause told kinds start before stands led behind.
        let (judged, stays) = line.refused is cause told kinds before stands in
        let silent = line.silent is in (
          [],
          ends_so kinds old.limits (items before) cause judged,
          handed_none leads text bound number new.roster new.analysis written now from to kinds start before stays (subst (leads kinds start before) (sym silent.0) led) (quiet is) silent.1,
        );
    halted = on_err_from result line.halted (λ all kinds start before stands led behind. elim (all kinds start before stands led behind) [
      | inl (silent, still) ↦ ([], [], begins_so kinds old.limits (items before), cut_none leads text bound number new.roster new.analysis written now from to kinds start before silent still)
      | inr (item, judged, cut) ↦ (
        [],
        item ∷ [],
        λ more. (more (items before ++ item ∷ []), goes_one kinds old.limits (items before) item judged more),
        cut_one leads text bound number new.roster new.analysis written now from to kinds start before item cut,
      )
    ]);
  }
