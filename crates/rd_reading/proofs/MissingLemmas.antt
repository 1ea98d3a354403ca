-- Pairs that are missing.
use Rattle.std.proofs.Common.{◌≡◌, ℕ, Bool, List, Option, None, Some, sym, ap, subst, arith}
use Rattle.std.specs.Prelude.{IsSome}
use Rattle.rd_open_kind.specs.Filled.{filled_with}
use Rattle.rd_open_kind.specs.Opened.{Opened, filled}
use Rattle.rd_open_kind.proofs.FilledLemmas.{filled_whole}
use Rattle.rd_reading.specs.declared.known.Block.{Block}
use Rattle.rd_reading.specs.Causes.{LacksPair}
use Rattle.rd_reading.specs.Known.{opened_in}
use Rattle.rd_ecl.specs.Specified.{IsDraft, IsWhole, SpecifiedKind}

none_there : {T : Type 0} (o : Option T) → o ≡ None → ¬ (IsSome o)
none_there None same is = absurd (cc)
none_there (Some x) same is = absurd (cc)

-- a kind with each of its pairs lacks none
pub whole_lacks : (kind : SpecifiedKind) (first second : List ℕ) → IsWhole kind → ¬ (LacksPair kind first second)
whole_lacks kind first second whole lacks =
    none_there _ lacks.missing.missing (whole lacks.first_number lacks.second_number lacks.missing.ordered lacks.missing.known)

-- with a default no pair is missing
pub default_whole : (opened : Opened) (value : Bool) → opened.default ≡ Some value → IsDraft opened.kind → IsWhole (filled opened)
default_whole opened value is draft =
    subst (λ (default : Option Bool). IsWhole (filled_with default opened.kind)) (sym is) (filled_whole opened.kind value draft)

-- without one a kind stays as it is
pub without_default : (opened : Opened) → opened.default ≡ None → opened.kind ≡ filled opened
unfolding filled_with
without_default opened is = ap (λ (default : Option Bool). filled_with default opened.kind) (sym is)

-- where no kind is open none is missing
pub none_open : (block : Option Block) → block ≡ None → IsWhole (filled (opened_in block))
unfolding filled_with
none_open None is = λ first second ordered within. absurd (omega (arith, within))
none_open (Some block) is = absurd (cc)
