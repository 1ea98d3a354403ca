-- The kinds that a text says are few, and each has a name of its own.
use Rattle.std.proofs.Common.{◌≡◌, ◌≢◌, ℕ, ◌<◌, ◌≤◌, List, [], ◌∷◌, ◌++◌, length, Option, Some, None, refl, sym, ap, subst, arith, ◌∙◌, length-append}
use Rattle.std.specs.Prelude.{All, Contains}
use Rattle.std.proofs.lemmas.List.{get_or-map, length-map, map-append}
use Rattle.std.proofs.lemmas.List.Elements.{All-push}
use Rattle.rd_reading.specs.Adding.{AcceptsSpecLine, Adds, FormAdds, adds_form, adds_header, with_kind, with_open}
use Rattle.rd_reading.specs.Causes.{FormHas, KindHas, form_has}
use Rattle.rd_pairs.specs.Causes.{HasNone}
use Rattle.rd_reading.specs.Known.{kind_in, kinds_so_far, nothing, open_kinds, open_method_names, opened_in, specified_kind_names, stage_in, stage_of}
use Rattle.rd_pairs.specs.declared.spec_causes.SpecCause.TheVariants.{Duplicate, KindTaken, Limit}
use Rattle.rd_reading.specs.declared.known.Block.{Block}
use Rattle.rd_reading.specs.declared.known.Known.{Known}
use Rattle.rd_base.specs.declared.limits.LimitName.TheVariants.{Kinds}
use Rattle.rd_ecl.specs.Specified.{SpecifiedKind}
use Rattle.rd_open_kind.specs.Opened.{Opened, filled, kind_named, with_default, with_definition, with_method_in, with_pair_in}
use Rattle.rd_open_kind.proofs.FilledLemmas.{filled_name}
use Rattle.rd_lines.specs.Lines.{RightLine, SaidForm, words_of}
use Rattle.rd_lines.specs.Lines.{kind as kind_said, method as method_said, commute as commute_said, default as default_said, define as define_said}
use Rattle.rd_lines.specs.declared.forms.Stage.{Stage}
use Rattle.rd_lines.specs.declared.forms.Stage.TheVariants.{Outside, Methods, Definitions, Defaulted, Pairs}
use Rattle.rd_lines.specs.declared.forms.Version.{Version}
use Rattle.rd_reading.proofs.DraftLemmas.{may_default, may_stand, not_outside}
use Rattle.rd_pairs.proofs.NumberLemmas.{AreDifferent}
use Rattle.rd_tokens.specs.declared.sorts.Token.{Token}
use Rattle.rd_reading.specs.Texts.{HasNewNames, ReadsLines, SpecSays, no_more, skips, takes}
use Rattle.rd_reading.proofs.OneLemmas.{name_more}
use Rattle.rd_base.specs.declared.limits.TheConstants.{MOST_KINDS}

-- at most 32 names, no two the same, and none that is taken
record AreNew (taken : List (List ℕ)) (names : List (List ℕ)) : Type 0 where
  few : length names ≤ MOST_KINDS
  different : AreDifferent names
  free : All (λ name. ¬ (Contains taken name)) names

abbrev names_so_far : Known → List (List ℕ)
names_so_far known = specified_kind_names (kinds_so_far known)

none_new : (taken : List (List ℕ)) → AreNew taken []
none_new taken = record {
  few = omega arith;
  different = λ i j d less within. absurd (omega (arith, within));
  free = λ k d within. absurd (omega (arith, within));
}

-- a name more
new_more : (taken names : List (List ℕ)) (name : List ℕ) → AreNew taken names → length names < MOST_KINDS → ¬ (Contains names name) → ¬ (Contains taken name)
    → AreNew taken (names ++ name ∷ [])
new_more taken names name new room fresh free = record {
  few = let count = length-append names (name ∷ []) in omega (arith, count, room);
  different = name_more names name new.different fresh;
  free = All-push (λ (other : List ℕ). ¬ (Contains taken other)) names name new.free free;
}

-- the last kind's name stands last
names_last : (closed : List SpecifiedKind) (kind : SpecifiedKind) → specified_kind_names (closed ++ kind ∷ []) ≡ specified_kind_names closed ++ kind.name ∷ []
names_last closed kind = map-append (λ (one : SpecifiedKind). one.name) closed (kind ∷ [])

count_names : (kinds : List SpecifiedKind) → length (specified_kind_names kinds) ≡ length kinds
count_names kinds = length-map kinds (λ (kind : SpecifiedKind). kind.name)

-- where a kind is open, another one of its name leaves the names
names_kept : (known : Known) (opened : Opened) (stage : Stage) → stage_of known ≢ Outside → opened.kind.name ≡ (kind_in known.block).name
    → names_so_far (with_open known opened stage) ≡ names_so_far known
names_kept known opened stage stands named =
    names_last known.closed (filled opened)
    ∙ ap (λ (name : List ℕ). specified_kind_names known.closed ++ name ∷ []) (filled_name opened.kind opened.default) ∙ by known.block stands named where
      by : (block : Option Block) → stage_in block ≢ Outside → opened.kind.name ≡ (kind_in block).name
          → specified_kind_names known.closed ++ opened.kind.name ∷ [] ≡ specified_kind_names (known.closed ++ open_kinds block)
      by None inside same = absurd (inside refl)
      by (Some block) inside same =
          ap (λ (name : List ℕ). specified_kind_names known.closed ++ name ∷ []) (same ∙ sym (filled_name block.opened.kind block.opened.default))
          ∙ sym (names_last known.closed (filled block.opened))

-- a clean line of a kind brings a new name
kind_new : (taken : List (List ℕ)) (known : Known) (line : List ℕ) (tokens : List Token) (name : List ℕ) → AreNew taken (names_so_far known)
    → HasNone (KindHas taken known line tokens name) → AreNew taken (names_so_far (with_kind known name))
kind_new taken known line tokens name new clean =
    subst (AreNew taken) (sym (names_last (kinds_so_far known) (filled (kind_named name))
    ∙ ap (λ (n : List ℕ). names_so_far known ++ n ∷ []) (filled_name (kind_named name).kind None)))
    (new_more taken (names_so_far known) name new room (λ among. clean Duplicate _ (among, refl)) (λ reserved. clean KindTaken _ (reserved, refl))) where
      room : length (names_so_far known) < MOST_KINDS
      room =
          let count = count_names (kinds_so_far known) in
          let never : ¬ (MOST_KINDS ≤ length (kinds_so_far known)) = λ full. clean (Limit Kinds MOST_KINDS) _ (full, refl, refl) in
          omega (arith, count, never)

-- an accepted line keeps the names new
form_new : (taken : List (List ℕ)) (version : Version) (known next : Known) (line : List ℕ) (tokens : List Token) (form : SaidForm) → AreNew taken (names_so_far known)
    → RightLine version (stage_of known) (open_method_names known) (words_of line tokens) form → HasNone (FormHas taken version known line tokens form)
    → FormAdds version known line tokens form next → AreNew taken (names_so_far next)
form_new taken version known next line tokens (kind_said name) new right clean adds =
    subst (λ (k : Known). AreNew taken (names_so_far k)) (sym adds) (kind_new taken known line tokens name new clean)
form_new taken version known next line tokens (method_said name arguments result) new right clean adds =
    let longer : Opened = with_method_in (opened_in known.block) (record { name = name; variables = arguments ++ result ∷ [] }) in
    let inside : stage_of known ≢ Outside = not_outside Methods (λ e. cc) (stage_of known) right.stands in
    subst (AreNew taken) (sym (ap names_so_far adds ∙ names_kept known longer Methods inside refl)) new
form_new taken version known next line tokens (commute_said first second read) new right clean (m, n, f, says, same) =
    let fuller : Opened = with_pair_in (opened_in known.block) m n f in
    subst (AreNew taken) (sym (ap names_so_far same ∙ names_kept known fuller Pairs right.stands refl)) new
form_new taken version known next line tokens (define_said owner name read) new right clean (m, f, says, same) =
    let more : Opened = with_definition (opened_in known.block) m (record { name = name; formula = f }) in
    subst (AreNew taken) (sym (ap names_so_far same ∙ names_kept known more Definitions (may_stand (stage_of known) right.stands) refl)) new
form_new taken version known next line tokens (default_said value) new right clean same =
    let given : Opened = with_default (opened_in known.block) value in
    subst (AreNew taken) (sym (ap names_so_far same ∙ names_kept known given Defaulted (may_default (stage_of known) right.stands) refl)) new

accepted_new : (taken : List (List ℕ)) (known next : Known) (line : List ℕ) → AreNew taken (names_so_far known) → AcceptsSpecLine taken known line next
    → AreNew taken (names_so_far next)
accepted_new taken known next line new accepts = by accepts.adds where
  by : Adds known line accepts.tokens next → AreNew taken (names_so_far next)
  by (adds_header version fresh header same) = subst (λ (k : Known). AreNew taken (names_so_far k)) (sym same) new
  by (adds_form version begun form right adds) =
      form_new taken version known next line accepts.tokens form new right (λ cause place has. accepts.clean cause place (form_has version begun form right has)) adds

-- so do lines, one after another
reads_new : (taken : List (List ℕ)) (known last : Known) (lines : List (List ℕ)) → AreNew taken (names_so_far known) → ReadsLines taken known lines last
    → AreNew taken (names_so_far last)
reads_new taken known last lines new no_more = new
reads_new taken known last lines new (skips {lines = rest} skipped more) = reads_new taken known last rest new more
reads_new taken known last lines new (takes {mid = mid} {line = line} {lines = rest} kept accepts more) =
    reads_new taken mid last rest (accepted_new taken known mid line new accepts) more

-- kinds whose names are new
has_new : (taken : List (List ℕ)) (kinds : List SpecifiedKind) → AreNew taken (specified_kind_names kinds) → HasNewNames taken kinds
has_new taken kinds new = record {
  few = let count = count_names kinds in let few = new.few in omega (arith, count, few);
  different = new.different;
  free = λ k d within.
      let count = count_names kinds in
      subst (λ (name : List ℕ). ¬ (Contains taken name)) (get_or-map (λ (kind : SpecifiedKind). kind.name) kinds k d d.name within)
      (new.free k d.name (omega (arith, count, within)));
}

pub read_names : (text : List ℕ) (taken : List (List ℕ)) (kinds : List SpecifiedKind) → SpecSays text taken kinds → HasNewNames taken kinds
read_names text taken kinds says =
    subst (HasNewNames taken) (sym says.said)
    (has_new taken (kinds_so_far says.known) (reads_new taken nothing says.known says.lines (none_new taken) says.reads))
