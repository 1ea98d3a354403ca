-- By which lines threads learnt, after an event.
use Rattle.std.proofs.Common.{◌≡◌, ◌≢◌, ◌⊎◌, inl, inr, ℕ, ◌<◌, List, [], ◌∷◌, ◌++◌, length, set, Some, sym, ap, subst, ◌∙◌, arith}
use Rattle.std.specs.Prelude.{slice_get}
use Rattle.std.proofs.lemmas.Bool.{cases_eq}
use Rattle.std.proofs.Math.ListN.{length-set}
use Rattle.std.proofs.lemmas.Grind.{get_or-set_at}
use Rattle.std.proofs.lemmas.List.{get_or-set_other}
use Rattle.std.proofs.lemmas.Option.{get_or_from_slice_get, none-some, same_Some, slice_get-get_or, slice_get_within}
use Rattle.rd_event.specs.declared.events.Call.{Call as CallOf}
use Rattle.rd_event.specs.declared.events.Event.{Event}
use Rattle.rd_event.specs.declared.events.Event.TheVariants as event
use Rattle.rd_order.proofs.OrderLemmas.{at_front}
use Rattle.rd_order.specs.Order.{forked_thread, thread_of}
use Rattle.rd_epoch.specs.Lessons.{AreLessons, Teaches, by_beginning, by_joining, by_taking}
use Rattle.rd_epoch.proofs.AccessLemmas.{at_more}

-- each line that is held is the next one, or was held and isn't passed by the event
module _ (lines : List ℕ) (es : List Event) (line : ℕ) (e : Event) (lengths : length lines ≡ length es) (below : (k l : ℕ) → slice_get lines k ≡ Some l → l < line)
    (old : List ℕ) (are : AreLessons old lines es) where
  pub lessons_after : (new : List ℕ) → ((t l : ℕ) → slice_get new t ≡ Some l → (l ≡ line) ⊎ ((slice_get old t ≡ Some l) × ¬ (Teaches e t)))
      → AreLessons new (lines ++ line ∷ []) (es ++ e ∷ [])
  lessons_after new each t l at k x at_line at_x taught is = elim (each t l at) [
    | inl now ↦ elim (at_more lines line at_line k is) [
      | inl early ↦ let b = below k at_line early.1 in omega (arith, now, b)
      | inr last ↦ let same = last.1 in omega (arith, now, same)
    ]
    | inr kept ↦ elim (at_more es e x k at_x) [
      | inl early ↦ are t l kept.0 k x at_line early.1 taught (sym (at_front lines (line ∷ []) k (omega (arith, early.0, lengths))) ∙ is)
      | inr last ↦ absurd (kept.1 (subst (λ y. Teaches y t) last.1 taught))
    ]
  ]

  -- it begins the next thread
  pub lessons_begun : ((t : ℕ) → t < length old → ¬ (Teaches e t)) → AreLessons (old ++ line ∷ []) (lines ++ line ∷ []) (es ++ e ∷ [])
  lessons_begun none = lessons_after (old ++ line ∷ []) (λ t l at. elim (at_more old line l t at) [ inl early ↦ inr (early.1, none t early.0) | inr last ↦ inl last.1 ])

  -- it teaches none
  pub lessons_kept : ((t : ℕ) → t < length old → ¬ (Teaches e t)) → AreLessons old (lines ++ line ∷ []) (es ++ e ∷ [])
  lessons_kept none = lessons_after old (λ t l at. inr (at, none t (slice_get_within old t l at)))

-- a thread that begins has learnt by its line, whatever was before
pub lessons_root : (lines : List ℕ) (es : List Event) (line : ℕ) → ((k l : ℕ) → slice_get lines k ≡ Some l → l < line) → (old : List ℕ) → AreLessons old lines es → AreLessons (old ++ line ∷ []) lines es
lessons_root lines es line below old are t l at k x at_line at_x taught is = elim (at_more old line l t at) [
  | inl early ↦ are t l early.1 k x at_line at_x taught is
  | inr last ↦ let b = below k at_line is in let same = last.1 in omega (arith, b, same)
]

-- what an event of this sort doesn't teach
pub no_fork_of : (thread child t : ℕ) → t ≢ child → ¬ (Teaches (event.Fork thread child) t)
no_fork_of thread child t apart (by_joining other is joins) = none-some other joins
no_fork_of thread child t apart (by_taking hold is takes) = none-some hold takes
no_fork_of thread child t apart (by_beginning forks) = apart (sym (same_Some child t forks))

pub no_other : (e : Event) (t : ℕ) → forked_thread e ≢ Some t → t ≢ thread_of e → ¬ (Teaches e t)
no_other e t begun apart (by_joining other is joins) = apart (sym is)
no_other e t begun apart (by_taking hold is takes) = apart (sym is)
no_other e t begun apart (by_beginning forks) = begun forks

pub no_lesson_of_call : (call : CallOf) (t : ℕ) → ¬ (Teaches (event.Call call) t)
no_lesson_of_call call t (by_joining other is joins) = none-some other joins
no_lesson_of_call call t (by_taking hold is takes) = none-some hold takes
no_lesson_of_call call t (by_beginning forks) = none-some t forks

pub no_release : (thread lock t : ℕ) → ¬ (Teaches (event.Release thread lock) t)
no_release thread lock t (by_joining other is joins) = none-some other joins
no_release thread lock t (by_taking hold is takes) = none-some hold takes
no_release thread lock t (by_beginning forks) = none-some t forks

pub no_unshare : (thread lock t : ℕ) → ¬ (Teaches (event.Unshare thread lock) t)
no_unshare thread lock t (by_joining other is joins) = none-some other joins
no_unshare thread lock t (by_taking hold is takes) = none-some hold takes
no_unshare thread lock t (by_beginning forks) = none-some t forks

-- a line is set
pub set_at : (xs : List ℕ) (i x : ℕ) → i < length xs → (t l : ℕ) → slice_get (set xs i x) t ≡ Some l → (l ≡ x) ⊎ ((slice_get xs t ≡ Some l) × (t ≢ i))
set_at xs i x inside t l at = elim (cases_eq t i) [
  | inl here ↦ inl (sym (get_or_from_slice_get (set xs i x) t l l at) ∙ get_or-set_at xs i t x l here inside)
  | inr apart ↦
      let within : t < length xs = omega (arith, slice_get_within (set xs i x) t l at, length-set xs i x) in
      inr (slice_get-get_or xs t l within ∙ ap Some (sym (get_or-set_other xs i t x l apart) ∙ get_or_from_slice_get (set xs i x) t l l at), apart)
]
