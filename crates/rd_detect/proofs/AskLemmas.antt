-- The kinds of calls.
use Rattle.std.proofs.Common.{◌≡◌, inl, inr, ℕ, ◌<◌, ◌==◌, ◌&&◌, Bool, true, List, [], ◌∷◌, ◌++◌, length, Option, Some, None, refl, ap, subst, ◌∙◌, arith}
use Rattle.std.specs.Prelude.{All, IfSome, map, option_map, slice_get, unwrap_or}
use Rattle.std.proofs.lemmas.Bool.{cases_eq}
use Rattle.std.proofs.lemmas.Bool.Decides.{Decides-and, Decides-eqb}
use Rattle.std.proofs.lemmas.List.{length-map}
use Rattle.std.proofs.lemmas.List.Elements.{All-get_or}
use Rattle.std.proofs.lemmas.Option.{get_or_from_slice_get, slice_get-get_or, slice_get-map, slice_get_within}
use Rattle.rd_ecl.specs.Kinds.{Kind, KindMethod, kind_of, kinds_of, method_of, methods_at, kind_slots_at}
use Rattle.rd_ecl.specs.Specified.{SpecifiedKind, kind_at, no_kind, slots_at}
use Rattle.rd_ecl.specs.declared.kinds.Method.{Method}
use Rattle.rd_event.specs.declared.events.Call.{Call as CallOf}
use Rattle.rd_event.specs.declared.events.Event.{Event}
use Rattle.rd_event.specs.declared.events.Event.TheVariants.{Call}
use Rattle.rd_order.specs.EventLists.{IsCallOf, WellFormed, calls, is_call_on}
use Rattle.rd_order.specs.Order.{call_in}
use Rattle.rd_order.proofs.EventListLemmas.{counted_once, formed_more}

-- ---- the kind of a call

-- each call of the list is of one of the kinds
pub call_fits : (kinds : List Kind) (es : List Event) (i : ℕ) (call : CallOf) → All (λ e. IfSome (call_in e) (IsCallOf kinds)) es
    → slice_get es i ≡ Some (Call call) → IsCallOf kinds call
call_fits kinds es i call fit at =
    subst (λ e. IfSome (call_in e) (IsCallOf kinds)) (get_or_from_slice_get es i (Call call) (Call call) at)
    (All-get_or (λ e. IfSome (call_in e) (IsCallOf kinds)) es i (Call call) (slice_get_within es i (Call call) at) fit)

methods_kept : (kinds : List SpecifiedKind) (number : ℕ) → number < length kinds → methods_at (kinds_of kinds) number ≡ map method_of (kind_at kinds number).methods
methods_kept kinds number inside =
    ap (λ o. unwrap_or (option_map (λ kind. kind.methods) o) [])
    (slice_get-map kind_of kinds number ∙ ap (option_map kind_of) (slice_get-get_or kinds number no_kind inside))

slots_in : (o : Option Method) → unwrap_or (option_map (λ (method : KindMethod). method.slots) (option_map method_of o)) 0
    ≡ unwrap_or (option_map (λ (method : Method). length method.variables) o) 0
slots_in None = refl
slots_in (Some method) = refl

slots_kept : (methods : List Method) (number : ℕ) → kind_slots_at (map method_of methods) number ≡ slots_at methods number
slots_kept methods number =
    ap (λ o. unwrap_or (option_map (λ (method : KindMethod). method.slots) o) 0) (slice_get-map method_of methods number) ∙ slots_in (slice_get methods number)

-- a call is one of a method of this kind, with its slots
pub record IsOfKind (kind : SpecifiedKind) (call : CallOf) : Type 0 where
  pub method : call.method < length kind.methods
  pub slots : length call.slots ≡ slots_at kind.methods call.method

-- it is of a method of that kind, and has its slots
pub of_kind : (kinds : List SpecifiedKind) (call : CallOf) → IsCallOf (kinds_of kinds) call → (call.kind < length kinds) × IsOfKind (kind_at kinds call.kind) call
of_kind kinds call fits = (
  inside,
  record {
    method = omega (arith, fits.method, ap length same, length-map (kind_at kinds call.kind).methods method_of);
    slots = fits.slots ∙ ap (λ methods. kind_slots_at methods call.method) same ∙ slots_kept (kind_at kinds call.kind).methods call.method;
  },
)
  where
    inside : call.kind < length kinds
    inside = omega (arith, fits.kind, length-map kinds kind_of)

    same : methods_at (kinds_of kinds) call.kind ≡ map method_of (kind_at kinds call.kind).methods
    same = methods_kept kinds call.kind inside

-- ---- calls on one object

-- an earlier call on its object is of the kind of a call that may follow
pub one_kind : (roots : ℕ → Bool) (es : List Event) (call other : CallOf) (i : ℕ) → WellFormed roots (es ++ Call call ∷ [])
    → slice_get es i ≡ Some (Call other) → other.object ≡ call.object → other.kind ≡ call.kind
unfolding calls
one_kind roots es call other i formed at same = elim (cases_eq other.kind call.kind) [
  | inl alike ↦ alike
  | inr differ ↦
      let none : calls es call.object other.kind ≡ 0 = ((formed_more roots es (Call call)).0 formed).1.one_kind call refl other.kind differ in
      let some = counted_once (λ e. is_call_on (call_in e) call.object other.kind) es i (Call other) at (counted same) in
      absurd (omega (arith, none, some))
]
  where
    counted : other.object ≡ call.object → ((other.object == call.object) && (other.kind == other.kind)) ≡ true
    counted same = (Decides-and _ _ (Decides-eqb other.object call.object) (Decides-eqb other.kind other.kind)).1 (same, refl)
