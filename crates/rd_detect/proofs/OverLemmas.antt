-- A call that is kept in the memory of another.
use Rattle.std.proofs.Common.{◌≡◌, inr, ℕ, false, List, [], ◌∷◌, length, Option, None, Some, is_some, refl, sym, ap, subst, ◌∙◌, arith, true≢false}
use Rattle.std.specs.Prelude.{option_map, slice_get}
use Rattle.std.specs.Global.{Global}
use Rattle.std.specs.declared.rc.Rc.{Rc}
use Rattle.rd_event.specs.declared.events.Call.{Call as CallOf}
use Rattle.rd_hb.specs.declared.tracker.Tracked.{Tracked}
use Rattle.rd_points.specs.declared.points.Point.{Point}
use Rattle.rd_store.specs.Stores.{IsTouched, PointCells, cell_count}
use Rattle.rd_store.specs.declared.Witness.{Witness}
use Rattle.rd_detect.specs.Detect.{AreTouched, Detecting, IsSweptWhere, IsCallKept, is_due, touched_points}
use Rattle.rd_detect.proofs.TouchLemmas.{none_in}
use Rattle.rd_detect.proofs.NewCellLemmas.{PointsTold}
use Rattle.rd_detect.proofs.TouchingLemmas.{touched_more}

-- the only one
pub only_one : {X : Type 0} (xs : List X) (x : X) → length xs ≡ 1 → slice_get xs 0 ≡ Some x → xs ≡ x ∷ []
only_one [] x one at = cc
only_one (y ∷ []) x one at = cc
only_one (y ∷ z ∷ xs) x one at = absurd (omega (arith, one))

pub untouched : (store : List PointCells) (thread : ℕ) (witness : Witness) → AreTouched store store [] thread witness
untouched store thread witness = record {
  own = λ point has. none_in point has;
  rest = λ point. inr refl;
  others = λ point other differ. refl;
  count = omega arith;
}

-- where no sweep is due, and the one point that the call touches has the cell
pub taken_over : PointsTold → (threads : List Tracked) (old : Detecting) (store : List PointCells) (call : CallOf) (witness : Witness) (point : Point) → touched_points old.tables call ≡ point ∷ []
    → IsTouched old.store store point call.thread witness → cell_count store ≡ cell_count old.store → is_due (cell_count old.store) old.kept ≡ false
    → IsCallKept threads old (record { tables = old.tables; store = store; kept = old.kept }) call witness
taken_over told threads old store call witness point only touched count due = record {
  tables = refl;
  store = store;
  touched = subst (λ points. AreTouched old.store store points call.thread witness) (sym only)
      (touched_more told old.store old.store store point call.thread witness touched [] (untouched old.store call.thread witness));
  swept = subst (λ b. IsSweptWhere b threads old.kept store store old.kept) (sym (ap (λ n. is_due n old.kept) count ∙ due)) (refl, refl);
}

-- nothing was found
pub none_found : (found : Option (Rc Witness Global)) → is_some found ≡ false → option_map (λ (held : Rc Witness Global). held.value) found ≡ None
none_found None none = refl
none_found (Some held) some = absurd (true≢false some)
