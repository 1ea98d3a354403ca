-- What becomes of a line, from what becomes of its items.
use Rattle.std.proofs.Common.{◌≡◌, ◌≢◌, ◌⊎◌, inl, inr, ℕ, false, List, [], ◌∷◌, ◌++◌, Option, Some, None, Result, Ok, Err, refl, sym, subst, ◌∙◌, arith}
use Rattle.std.proofs.lemmas.Option.{same_Some}
use Rattle.rd_base.specs.Limits.{AreUsable}
use Rattle.rd_ecl.specs.Kinds.{Kind}
use Rattle.rd_epochs_command.specs.Lines.{TakesItem, WasJudged}
use Rattle.rd_event.specs.declared.items.Line.{Line}
use Rattle.rd_rules.proofs.FollowLemmas.{follows_from_none}
use Rattle.rd_rules.specs.MayFollow.{first_broken, is_event}
use Rattle.rd_rules.specs.declared.causes.Accepted.{Accepted}
use Rattle.rd_rules.specs.declared.causes.TraceCause.TheVariants.{BadLine, Wf}
use Rattle.rd_rules.specs.declared.causes.WfCause.{WfCause}
use Rattle.rd_walk.proofs.TakingLemmas.{cut_further, cut_none, cut_one, handed_further, handed_none, handed_one, on_err_from}
use Rattle.rd_walk.proofs.WalkLemmas.{before_still, begins_untold, begins_with_first, ends_as_bad, ends_at_first, ends_at_one, ends_at_second, goes_as_one, goes_as_two, items_more}
use Rattle.rd_walk.specs.Analysis.{AreBefore, IsNextEntry}
use Rattle.rd_walk.specs.Taking.{AreHandedOn, EndsAs, TakesGrammarLine}
use Rattle.rd_walk.specs.Walk.{Entry, Saying, entries_at, items}
use Rattle.rd_walk.specs.declared.analysis.Halt.{Halt}
use Rattle.rd_walk.specs.declared.walk.Taken.{Taken}
use Rattle.rd_walk.specs.declared.walk.Taken.TheVariants as taken
use Rattle.rd_walk.specs.declared.walk.WalkEnd.TheVariants.{Refused as Ends}
use Rattle.rd_walk.specs.declared.walk.Walker.{Walker}
use Rattle.rd_wf.specs.Roster.{RosterStandsFor}

-- an item that the roster accepted is the next entry
pub judged_next : {A : Type 0} (old mid : Walker A) (item : Line) (accepted : Accepted) → WasJudged old mid item (Ok accepted) → AreUsable mid.limits
    → (kinds : List Kind) (number : ℕ) (before : List Entry) → RosterStandsFor kinds old.roster (items before) → AreBefore number before
    → IsNextEntry kinds mid.roster before number item accepted
judged_next old mid item accepted was usable kinds number before stands behind =
    let (unbroken, numbers, now) = was.judged.1 kinds (items before) stands in record {
      limits = old.limits;
      usable = subst AreUsable was.limits usable;
      follows = follows_from_none kinds old.limits (items before) item unbroken;
      numbers = numbers;
      stands = now;
      few = omega (arith, now.thread_total, mid.roster.few_threads);
      rising = behind;
    }

module _ {A : Type 0} (says : Saying) (leads : List Kind → A → List Entry → A → Type 0) (text : List Kind → A → List Entry → List ℕ) (bound : List Kind → A → List Line → Line → ℕ)
    (number : ℕ) (bytes : List ℕ) where
  -- a line that says one item, which may be known only where the item isn't refused
  pub line_of_one : (item : Line) (old new : Walker A) (written now : Option (List ℕ)) (from to : ℕ) (result : Result Taken Halt)
      → ((kinds : List Kind) (before : List Line) → RosterStandsFor kinds old.roster before → (first_broken kinds old.limits before item ≡ None) ⊎ (result ≡ Ok taken.Refused)
      → says before bytes ≡ Some (item ∷ []))
      → TakesItem leads text bound number item old new written now from to result → TakesGrammarLine says leads text bound number bytes old new written now from to result
  line_of_one item old new written now from to result said takes = record {
    taken = λ is kinds start before stands led behind.
        let (unbroken, handed) = takes.taken is kinds start before stands led behind in (
          item ∷ [],
          λ none. cc,
          goes_as_one says kinds old.limits number (items before) bytes item (said kinds (items before) stands (inl unbroken)) unbroken,
          handed_one leads text bound number new.roster new.analysis written now from to kinds start before item handed,
        );
    cause = takes.cause;
    refused = λ is cause told kinds start before stands led behind.
        let (broken, same, breaks, stays) = takes.refused is cause told kinds before stands in
        let (quiet, still, steps) = takes.silent is in (
          [],
          subst (λ c. EndsAs says kinds old.limits number (items before) bytes [] (Ends number c)) (sym same)
              (ends_at_one says kinds old.limits number (items before) bytes item broken (said kinds (items before) stands (inr is)) breaks),
          handed_none leads text bound number new.roster new.analysis written now from to kinds start before stays (subst (leads kinds start before) (sym still) led) quiet steps,
        );
    halted = on_err_from result takes.halted (λ all kinds start before stands led behind. elim (all kinds start before stands led behind) [
      | inl (quiet, steps) ↦ (
        [],
        [],
        begins_untold says kinds old.limits number (items before) bytes,
        cut_none leads text bound number new.roster new.analysis written now from to kinds start before quiet steps,
      )
      | inr (unbroken, cut) ↦ (
        [],
        item ∷ [],
        λ more. (more (items before ++ item ∷ []), goes_as_one says kinds old.limits number (items before) bytes item (said kinds (items before) stands (inl unbroken)) unbroken more),
        cut_one leads text bound number new.roster new.analysis written now from to kinds start before item cut,
      )
    ]);
  }

  -- a line that says two, of which the first isn't accepted
  pub line_of_first : (first second : Line) (old new : Walker A) (written now : Option (List ℕ)) (from to : ℕ) (result : Result Taken Halt)
      → ((kinds : List Kind) (before : List Line) → RosterStandsFor kinds old.roster before → says before bytes ≡ Some (first ∷ second ∷ []))
      → result ≢ Ok taken.Accepted → TakesItem leads text bound number first old new written now from to result → TakesGrammarLine says leads text bound number bytes old new written now from to result
  line_of_first first second old new written now from to result said other takes = record {
    taken = λ is. absurd (other is);
    cause = takes.cause;
    refused = λ is cause told kinds start before stands led behind.
        let (broken, same, breaks, stays) = takes.refused is cause told kinds before stands in
        let (quiet, still, steps) = takes.silent is in (
          [],
          subst (λ c. EndsAs says kinds old.limits number (items before) bytes [] (Ends number c)) (sym same)
              (ends_at_first says kinds old.limits number (items before) bytes first second (said kinds (items before) stands) broken breaks),
          handed_none leads text bound number new.roster new.analysis written now from to kinds start before stays (subst (leads kinds start before) (sym still) led) quiet steps,
        );
    halted = on_err_from result takes.halted (λ all kinds start before stands led behind. elim (all kinds start before stands led behind) [
      | inl (quiet, steps) ↦ (
        [],
        [],
        begins_untold says kinds old.limits number (items before) bytes,
        cut_none leads text bound number new.roster new.analysis written now from to kinds start before quiet steps,
      )
      | inr (unbroken, cut) ↦ (
        [],
        first ∷ [],
        begins_with_first says kinds old.limits number (items before) bytes first second (said kinds (items before) stands) unbroken,
        cut_one leads text bound number new.roster new.analysis written now from to kinds start before first cut,
      )
    ]);
  }

  -- a line that says two, of which the first is accepted
  module _ (first second : Line) (quiet_first : is_event first ≡ false) (old mid new : Walker A) (written between now : Option (List ℕ)) (from halfway to : ℕ) (done result : Result Taken Halt)
      (said : (kinds : List Kind) (before : List Line) → RosterStandsFor kinds old.roster before → says before bytes ≡ Some (first ∷ second ∷ []))
      (same_limits : mid.limits ≡ old.limits) (accepted : done ≡ Ok taken.Accepted)
      (takes : TakesItem leads text bound number first old mid written between from halfway done)
      (later : TakesItem leads text bound number second mid new between now halfway to result) where
    module _ (kinds : List Kind) (start : A) (before : List Entry) (stands : RosterStandsFor kinds old.roster (items before)) (led : leads kinds start before old.analysis) (behind : AreBefore number before) where
      abbrev entry : Entry
      entry = record { number = number; item = first }

      abbrev next : List Entry
      next = before ++ entry ∷ []

      unbroken : first_broken kinds old.limits (items before) first ≡ None
      unbroken = (takes.taken accepted kinds start before stands led behind).0

      first_handed : AreHandedOn (leads kinds start) (text kinds start) (bound kinds start) kinds mid.roster mid.analysis written between from halfway before (entries_at number (first ∷ []))
      first_handed = handed_one leads text bound number mid.roster mid.analysis written between from halfway kinds start before first (takes.taken accepted kinds start before stands led behind).1

      said_so : says (items before) bytes ≡ Some (first ∷ second ∷ [])
      said_so = said kinds (items before) stands

      still_behind : AreBefore number next
      still_behind = before_still number before first quiet_first behind

      -- what is judged of the second is judged behind the first
      judged_there : (found : Option _) → first_broken kinds mid.limits (items next) second ≡ found → first_broken kinds old.limits (items before ++ first ∷ []) second ≡ found
      judged_there found is = (λ i. first_broken kinds (sym same_limits i) (sym (items_more before entry) i) second) ∙ is

    pub line_of_two : TakesGrammarLine says leads text bound number bytes old new written now from to result
    line_of_two = record {
      taken = λ is kinds start before stands led behind.
          let handed = first_handed kinds start before stands led behind in
          let (fine, more) = later.taken is kinds start (next kinds start before stands led behind) handed.stands handed.leads (still_behind kinds start before stands led behind) in (
            first ∷ second ∷ [],
            λ none. cc,
            goes_as_two says kinds old.limits number (items before) bytes first second (said_so kinds start before stands led behind) (unbroken kinds start before stands led behind)
                (judged_there kinds start before stands led behind None fine),
            handed_further leads text bound kinds start mid.roster mid.analysis written between now from halfway to before (entries_at number (first ∷ [])) handed new.roster new.analysis
                (entries_at number (second ∷ []))
                (handed_one leads text bound number new.roster new.analysis between now halfway to kinds start (next kinds start before stands led behind) second more),
          );
      cause = later.cause;
      refused = λ is cause told kinds start before stands led behind.
          let handed = first_handed kinds start before stands led behind in
          let (broken, same, breaks, stays) = later.refused is cause told kinds (next kinds start before stands led behind) handed.stands in
          let (quiet, still, steps) = later.silent is in (
            first ∷ [],
            subst (λ c. EndsAs says kinds old.limits number (items before) bytes (first ∷ []) (Ends number c)) (sym same)
                (ends_at_second says kinds old.limits number (items before) bytes first second (said_so kinds start before stands led behind) (unbroken kinds start before stands led behind) broken
                (judged_there kinds start before stands led behind (Some broken) breaks)),
            handed_further leads text bound kinds start mid.roster mid.analysis written between now from halfway to before (entries_at number (first ∷ [])) handed new.roster new.analysis []
                (handed_none leads text bound number new.roster new.analysis between now halfway to kinds start (next kinds start before stands led behind) stays
                (subst (leads kinds start (next kinds start before stands led behind)) (sym still) handed.leads) quiet steps),
          );
      halted = on_err_from result later.halted (λ all kinds start before stands led behind.
          let handed = first_handed kinds start before stands led behind in
          elim (all kinds start (next kinds start before stands led behind) handed.stands handed.leads (still_behind kinds start before stands led behind)) [
            | inl (quiet, steps) ↦ (
              first ∷ [],
              [],
              begins_with_first says kinds old.limits number (items before) bytes first second (said_so kinds start before stands led behind) (unbroken kinds start before stands led behind),
              cut_further leads text bound kinds start mid.roster mid.analysis written between now from halfway to before (entries_at number (first ∷ [])) handed []
                  (cut_none leads text bound number new.roster new.analysis between now halfway to kinds start (next kinds start before stands led behind) quiet steps),
            )
            | inr (fine, cut) ↦ (
              first ∷ [],
              second ∷ [],
              λ more. (
                more (items before ++ (first ∷ second ∷ [])),
                goes_as_two says kinds old.limits number (items before) bytes first second (said_so kinds start before stands led behind) (unbroken kinds start before stands led behind)
                    (judged_there kinds start before stands led behind None fine) more,
              ),
              cut_further leads text bound kinds start mid.roster mid.analysis written between now from halfway to before (entries_at number (first ∷ [])) handed (entries_at number (second ∷ []))
                  (cut_one leads text bound number new.roster new.analysis between now halfway to kinds start (next kinds start before stands led behind) second cut),
            )
          ]);
    }

  -- a line that says nothing is refused
  pub line_bad : (old new : Walker A) (written : Option (List ℕ)) (steps : ℕ) → ((before : List Line) → says before bytes ≡ None) → new.refused ≡ Some BadLine
      → ((kinds : List Kind) (before : List Line) → RosterStandsFor kinds old.roster before → RosterStandsFor kinds new.roster before) → new.analysis ≡ old.analysis
      → TakesGrammarLine says leads text bound number bytes old new written written steps steps (Ok taken.Refused)
  line_bad old new written steps nothing cause stays still = record {
    taken = λ is. cc;
    cause = λ is. rw cause refl;
    refused = λ is told_cause told kinds start before stands led behind. (
      [],
      subst (λ c. EndsAs says kinds old.limits number (items before) bytes [] (Ends number c)) (same_Some BadLine told_cause (sym cause ∙ told))
          (ends_as_bad says kinds old.limits number (items before) bytes (nothing (items before))),
      handed_none leads text bound number new.roster new.analysis written written steps steps kinds start before (stays kinds (items before) stands) (subst (leads kinds start before) (sym still) led) refl refl,
    );
    halted = tt;
  }

  -- memory ran out in judging it
  pub line_lost : (old new : Walker A) (written : Option (List ℕ)) (steps : ℕ) (halt : Halt) → TakesGrammarLine says leads text bound number bytes old new written written steps steps (Err halt)
  line_lost old new written steps halt = record {
    taken = λ is. cc;
    cause = λ is. cc;
    refused = λ is. cc;
    halted = λ kinds start before stands led behind. (
      [],
      [],
      begins_untold says kinds old.limits number (items before) bytes,
      cut_none leads text bound number new.roster new.analysis written written steps steps kinds start before refl refl,
    );
  }

-- ---- from one walker to another that stands for the same lines

pub lines_later : {A : Type 0} (says : Saying) (leads : List Kind → A → List Entry → A → Type 0) (text : List Kind → A → List Entry → List ℕ) (bound : List Kind → A → List Line → Line → ℕ)
    (number : ℕ) (bytes : List ℕ) (old mid new : Walker A) (written now : Option (List ℕ)) (from to : ℕ) (result : Result Taken Halt)
    → ((kinds : List Kind) (lines : List Line) → RosterStandsFor kinds old.roster lines → RosterStandsFor kinds mid.roster lines) → mid.limits ≡ old.limits → mid.analysis ≡ old.analysis
    → TakesGrammarLine says leads text bound number bytes mid new written now from to result → TakesGrammarLine says leads text bound number bytes old new written now from to result
lines_later says leads text bound number bytes old mid new written now from to result still same_limits same_analysis line = record {
  taken = λ is kinds start before stands led behind. rw same_limits at (line.taken is kinds start before (still kinds (items before) stands) (subst (leads kinds start before) (sym same_analysis) led) behind);
  cause = line.cause;
  refused = λ is cause told kinds start before stands led behind.
      rw same_limits at (line.refused is cause told kinds start before (still kinds (items before) stands) (subst (leads kinds start before) (sym same_analysis) led) behind);
  halted = on_err_from result line.halted (λ all kinds start before stands led behind.
      rw same_limits at (all kinds start before (still kinds (items before) stands) (subst (leads kinds start before) (sym same_analysis) led) behind));
}

-- an item that the roster refused
pub item_refused : {A : Type 0} (leads : List Kind → A → List Entry → A → Type 0) (text : List Kind → A → List Entry → List ℕ) (bound : List Kind → A → List Line → Line → ℕ)
    (number : ℕ) (item : Line) (old new : Walker A) (written : Option (List ℕ)) (steps : ℕ) (broken : WfCause) → new.refused ≡ Some (Wf broken)
    → ((kinds : List Kind) (lines : List Line) → RosterStandsFor kinds old.roster lines → first_broken kinds old.limits lines item ≡ Some broken) → new.roster ≡ old.roster → new.analysis ≡ old.analysis
    → TakesItem leads text bound number item old new written written steps steps (Ok taken.Refused)
item_refused leads text bound number item old new written steps broken cause breaks same still = record {
  taken = λ is. cc;
  cause = λ _. rw cause refl;
  refused = λ _ told_cause told kinds before stands. (
    broken,
    same_Some told_cause (Wf broken) (sym told ∙ cause),
    breaks kinds (items before) stands,
    subst (λ roster. RosterStandsFor kinds roster (items before)) (sym same) stands,
  );
  silent = λ _. (refl, still, refl);
  halted = tt;
}

-- behind an item that was accepted and is no event the next one stands where it may
pub behind_first : {A : Type 0} (leads : List Kind → A → List Entry → A → Type 0) (text : List Kind → A → List Entry → List ℕ) (bound : List Kind → A → List Line → Line → ℕ)
    (number : ℕ) (first : Line) (old mid : Walker A) (written now : Option (List ℕ)) (from to : ℕ) (done : Result Taken Halt) → is_event first ≡ false → done ≡ Ok taken.Accepted
    → TakesItem leads text bound number first old mid written now from to done
    → (kinds : List Kind) (start : A) (before : List Entry) → RosterStandsFor kinds old.roster (items before) → leads kinds start before old.analysis → AreBefore number before
    → RosterStandsFor kinds mid.roster (items (before ++ entries_at number (first ∷ []))) × leads kinds start (before ++ entries_at number (first ∷ [])) mid.analysis
    × AreBefore number (before ++ entries_at number (first ∷ []))
behind_first leads text bound number first old mid written now from to done quiet accepted takes kinds start before stands led behind =
    let handed = handed_one leads text bound number mid.roster mid.analysis written now from to kinds start before first (takes.taken accepted kinds start before stands led behind).1 in
    (handed.stands, handed.leads, before_still number before first quiet behind)
