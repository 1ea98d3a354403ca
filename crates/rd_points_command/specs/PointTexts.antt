-- The text of a kind's access points: this project's profile.
use Rattle.std.specs.Prelude.{◌==◌, ◌^◌, ℕ, Bool, true, false, List, [], ◌++◌, codes, decimal, flat_map, length, if◌then◌else◌, Option, Some, None, option_map, unwrap_or, slice_get}
use Rattle.std.specs.Int.{bit_at}
use Rattle.rd_base.specs.Spelling.{value_spelling}
use Rattle.rd_ecl.specs.declared.formulas.Predicate.{Predicate}
use Rattle.rd_ecl.specs.declared.formulas.Term.{Term}
use Rattle.rd_ecl.specs.declared.formulas.Term.TheVariants.{Slot, Const}
use Rattle.rd_ecl.specs.Specified.{SpecifiedKind}
use Rattle.rd_classes.specs.Merged.{merged}
use Rattle.rd_points.specs.declared.touches.Touch.{Touch}
use Rattle.rd_points.specs.Classes.{joined}
use Rattle.rd_points.specs.Compiled.{compiled}
use Rattle.rd_points.specs.Tables.{PointTable, class_count, conflicts_at, is_plain_class, predicates_of_method, touches_at}
use Rattle.rd_print.specs.Canonical.{relation_sign}
use Rattle.rd_print.specs.Printed.{name_at, variables_at}
use Rattle.rd_tokens.specs.Words.{sign_word}

-- the name of a slot, by the variables of its method
abbrev pub variable_at : List (List ℕ) → ℕ → List ℕ
variable_at variables slot = unwrap_or (slice_get variables slot) []

-- ---- predicates

-- a term: the slot's variable, without a side, or a value
abbrev pub term_text : List (List ℕ) → Term → List ℕ
term_text variables (Slot slot) = variable_at variables slot
term_text variables (Const value) = value_spelling value

abbrev pub predicate_text : List (List ℕ) → Predicate → List ℕ
predicate_text variables p = term_text variables p.left ++ codes " " ++ sign_word (relation_sign p.rel) ++ codes " " ++ term_text variables p.right

-- the line of a predicate of the method with number m, by its number
abbrev pub predicate_line : SpecifiedKind → ℕ → ℕ → Predicate → List ℕ
predicate_line kind m number p =
    codes "predicate " ++ name_at kind.methods m ++ codes " " ++ decimal number ++ codes " " ++ predicate_text (variables_at kind.methods m) p ++ codes "\n"

-- the line of the predicate with this number, where there is one
abbrev pub predicate_line_at : SpecifiedKind → PointTable → ℕ → ℕ → List ℕ
predicate_line_at kind table m number = unwrap_or (option_map (predicate_line kind m number) (slice_get (predicates_of_method table m) number)) []

-- those of a method
abbrev pub predicate_lines : SpecifiedKind → PointTable → ℕ → List ℕ
predicate_lines kind table m = joined (predicate_line_at kind table m) (length (predicates_of_method table m))

-- ---- classes

-- numbers, each behind a blank
abbrev pub number_text : ℕ → List ℕ
number_text number = codes " " ++ decimal number

abbrev pub numbers_text : List ℕ → List ℕ
numbers_text numbers = flat_map number_text numbers

abbrev pub sort_text : Bool → List ℕ
sort_text true = codes " plain"
sort_text false = codes " value"

-- the line of a class: whether it is plain, and the classes in conflict with it
abbrev pub class_line : PointTable → ℕ → List ℕ
class_line table c = codes "class " ++ decimal c ++ sort_text (is_plain_class table c) ++ codes " conflicts" ++ numbers_text (conflicts_at table c) ++ codes "\n"

-- ---- touches

-- the truth values of so many predicates, the first in front; `-` for none
abbrev pub bit_text : ℕ → ℕ → List ℕ
bit_text bits number = if bit_at bits number == 1 then codes "1" else codes "0"

abbrev pub bits_text : ℕ → ℕ → List ℕ
bits_text count bits = if count == 0 then codes "-" else joined (bit_text bits) count

-- a touch: its class, and the variable whose value it is touched with
abbrev pub slot_text : List (List ℕ) → Option ℕ → List ℕ
slot_text variables None = []
slot_text variables (Some slot) = codes ":" ++ variable_at variables slot

abbrev pub touch_text : List (List ℕ) → Touch → List ℕ
touch_text variables touch = codes " " ++ decimal touch.class ++ slot_text variables touch.slot

abbrev pub touches_text : List (List ℕ) → List Touch → List ℕ
touches_text variables touches = flat_map (touch_text variables) touches

-- the line of what a call of a method with this valuation touches
abbrev pub touch_line : SpecifiedKind → PointTable → ℕ → ℕ → List ℕ
touch_line kind table m bits =
    codes "touch " ++ name_at kind.methods m ++ codes " " ++ bits_text (length (predicates_of_method table m)) bits ++ codes " points"
    ++ touches_text (variables_at kind.methods m) (touches_at table m bits) ++ codes "\n"

-- those of a method, by valuation
abbrev pub touch_lines : SpecifiedKind → PointTable → ℕ → List ℕ
touch_lines kind table m = joined (touch_line kind table m) (2 ^ length (predicates_of_method table m))

-- ---- a kind

abbrev pub kind_line : SpecifiedKind → PointTable → List ℕ
kind_line kind table = codes "kind " ++ kind.name ++ codes " classes " ++ decimal (class_count table) ++ codes "\n"

-- the line of the kind, then its predicates by method, its classes, and its touches by method
abbrev pub kind_text : SpecifiedKind → PointTable → List ℕ
kind_text kind table =
    kind_line kind table ++ joined (predicate_lines kind table) (length kind.methods) ++ joined (class_line table) (class_count table)
    ++ joined (touch_lines kind table) (length kind.methods)

-- the text of kinds, by their merged tables
abbrev pub points_text : List SpecifiedKind → List ℕ
points_text kinds = flat_map (λ kind. kind_text kind (merged (compiled kind))) kinds
