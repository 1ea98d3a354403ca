-- What the bytes of an access say.
use Rattle.std.proofs.Common.{◌≡◌, ℕ, Bool, true, false, cond, not, List, [], ◌∷◌, ◌++◌, Some, None, refl, sym, ap, ◌∙◌, true≢false}
use Rattle.std.specs.Prelude.{codes, option_map}
use Rattle.std.specs.List.{after_first, before_first}
use Rattle.rd_base.specs.Bytes.{is_space}
use Rattle.rd_base.specs.Names.{IsName}
use Rattle.rd_base.specs.declared.limits.Limits.{Limits}
use Rattle.rd_ecl.specs.Kinds.{Kind}
use Rattle.rd_epochs_command.specs.Lines.{SayAccess}
use Rattle.rd_epochs_command.specs.declared.lines.Words.{Words}
use Rattle.rd_event.specs.Reading.{names_read}
use Rattle.rd_event.specs.declared.items.Line.TheVariants.{Object}
use Rattle.rd_event.specs.declared.items.Line.{Line}
use Rattle.rd_memory.specs.MemoryLines.{access_of, memory_line_of}
use Rattle.rd_memory.specs.MemoryTraces.{access_call, items_said, memory_says}
use Rattle.rd_rules.proofs.FollowLemmas.{among_decides, follows_from_none, met}
use Rattle.rd_rules.specs.MayFollow.{first_broken, is_among, objects_of}
use Rattle.rd_wf.proofs.BytesLemmas.{names_at, names_none}

-- the bytes of a line with these words behind its keyword say an access by them
pub words_say : (bytes names : List ℕ) (words : Words) → memory_line_of bytes ≡ option_map (access_of words.write) (names_read names)
    → words.thread.now ≡ before_first is_space names → words.variable.now ≡ after_first is_space names → SayAccess bytes words
words_say bytes names words is before after = record {
  named = λ named. is ∙ ap (option_map (access_of words.write)) (names_at names words.thread.now words.variable.now before after named);
  unnamed = λ none. is ∙ ap (option_map (access_of words.write)) (names_none names words.thread.now words.variable.now before after none);
}

module _ (bytes : List ℕ) (words : Words) (say : SayAccess bytes words) where
  abbrev access : Line
  access = access_call words.thread.now words.variable.now words.write

  said_as : IsName words.thread.now × IsName words.variable.now → (before : List Line) (declared : Bool) → is_among (objects_of before) words.variable.now ≡ declared
      → memory_says before bytes ≡ Some (cond declared [] (Object words.variable.now (codes "variable") ∷ []) ++ access ∷ [])
  said_as named before declared is =
      ap (option_map (items_said before)) (say.named named)
      ∙ ap (λ b. Some (cond b [] (Object words.variable.now (codes "variable") ∷ []) ++ access ∷ [])) is

  -- to a variable that was declared: the call
  pub says_call : IsName words.thread.now × IsName words.variable.now → (before : List Line) → is_among (objects_of before) words.variable.now ≡ true → memory_says before bytes ≡ Some (access ∷ [])
  says_call named before is = said_as named before true is

  -- else its declaration in front of it
  pub says_first : IsName words.thread.now × IsName words.variable.now → (before : List Line) → is_among (objects_of before) words.variable.now ≡ false
      → memory_says before bytes ≡ Some (Object words.variable.now (codes "variable") ∷ access ∷ [])
  says_first named before is = said_as named before false is

  pub says_nothing : ¬ (IsName words.thread.now × IsName words.variable.now) → (before : List Line) → memory_says before bytes ≡ None
  says_nothing none before = ap (option_map (items_said before)) (say.unnamed none)

  -- a call that may follow is one of a variable that was declared
  pub declared_then : (kinds : List Kind) (limits : Limits) (before : List Line) → first_broken kinds limits before access ≡ None → is_among (objects_of before) words.variable.now ≡ true
  declared_then kinds limits before unbroken =
      (among_decides (objects_of before) words.variable.now).1 (met kinds limits before access (λ e. cc) (follows_from_none kinds limits before access unbroken)).known_object

-- a test that isn't passed
pub so : (a b : Bool) → a ≡ not b → a ≡ false → b ≡ true
so a true is h = refl
so a false is h = absurd (true≢false (sym is ∙ h))
