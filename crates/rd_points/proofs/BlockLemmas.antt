-- The classes of a kind by blocks.
use Rattle.std.proofs.Common.{◌≡◌, ◌+◌, ◌*◌, ◌<◌, ◌≤◌, ℕ, zero, suc, Bool, true, false, ◌&&◌, ◌||◌, cond, List, [], ◌∷◌, ◌++◌, length, get_or, map, take, Option, Some, None, refl, sym, ap, ◌∙◌, arith, mul-le-mul, subst}
use Rattle.std.specs.Prelude.{nat_le, flat_map, is_none, is_some, not, All}
use Rattle.std.specs.List.{range_with_len}
use Rattle.std.proofs.lemmas.Grind.{flat_map-append}
use Rattle.std.proofs.lemmas.List.{append-nil, append_assoc, length-append, map-append, map-id, map_push, take_more}
use Rattle.std.proofs.lemmas.List.Elements.{All-append, All-nil}
use Rattle.std.proofs.lemmas.List.Folds.{flat_map-map}
use Rattle.std.proofs.lemmas.Simd.{map-map}
use Rattle.std.proofs.lemmas.List.FromFn.{get_or-map-range_with_len, length-map-range_with_len, length-range_with_len, map-range_with_len_more}
use Rattle.rd_ecl.specs.declared.formulas.Predicate.{Predicate}
use Rattle.rd_ecl.specs.declared.reduction.Reduced.{Reduced}
use Rattle.rd_ecl.specs.declared.reduction.Reduced.TheVariants.{True}
use Rattle.rd_ecl.specs.Specified.{IsKind, SpecifiedKind, slots_at}
use Rattle.rd_points.specs.declared.blocks.Block.{Block}
use Rattle.rd_points.specs.declared.classes.Class.{Class}
use Rattle.rd_points.specs.declared.touches.Touch.{Touch}
use Rattle.rd_points.specs.Blocks.{Column, block_class, block_classes, blocks_of, column, conflict_row, meets, method_blocks, numbers_in, one_way, row_from, touches_from}
use Rattle.rd_points.specs.Classes.{clash, classes_conflict, classes_of, first_class, joined, method_classes, reduced_pair, slot_at, valuation_classes, valuations}
use Rattle.rd_points.specs.Compiled.{compiled, numbers_from, touches_of}
use Rattle.rd_points.specs.Tables.{PointTable}
use Rattle.rd_points.proofs.ClassLemmas.{length-joined, slots_few, valuations_few}
use Rattle.rd_points.proofs.NumberLemmas.{numbers-append, numbers-map, numbers_agree}

-- ---- lists

pub range_more : (n : ℕ) → range_with_len 0 (n + 1) ≡ range_with_len 0 n ++ n ∷ []
range_more n =
    let f : ℕ → ℕ = λ k. k in
    sym (map-id (range_with_len 0 (n + 1))) ∙ map-range_with_len_more f 0 n n (omega arith) ∙ ap (λ l. l ++ n ∷ []) (map-id (range_with_len 0 n))

module _ {X : Type 0} where
  flat_range : (f : ℕ → List X) (n : ℕ) → flat_map f (range_with_len 0 n) ≡ joined f n
  flat_range f zero = refl
  flat_range f (suc n) =
      ap (flat_map f) (ap (range_with_len 0) (let e : suc n ≡ n + 1 = omega arith in e) ∙ range_more n)
      ∙ flat_map-append f (range_with_len 0 n) (n ∷ [])
      ∙ ap (λ l. l ++ (f n ++ [])) (flat_range f n)
      ∙ ap (λ l. joined f n ++ l) (append-nil (f n))

  joined_agree : (f g : ℕ → List X) (n : ℕ) → ((m : ℕ) → f m ≡ g m) → joined f n ≡ joined g n
  joined_agree f g zero h = refl
  joined_agree f g (suc n) h = ap (λ l. l ++ f n) (joined_agree f g n h) ∙ ap (λ l. joined g n ++ l) (h n)

  flat_joined : {Y : Type 0} (g : X → List Y) (f : ℕ → List X) (n : ℕ) → flat_map g (joined f n) ≡ joined (λ m. flat_map g (f m)) n
  flat_joined g f zero = refl
  flat_joined g f (suc n) = flat_map-append g (joined f n) (f n) ∙ ap (λ l. l ++ flat_map g (f n)) (flat_joined g f n)

  all_joined : (P : X → Type 0) (f : ℕ → List X) (n : ℕ) → ((m : ℕ) → m < n → All P (f m)) → All P (joined f n)
  all_joined P f zero h = All-nil P
  all_joined P f (suc n) h = All-append P (joined f n) (f n) (all_joined P f n (λ m before. h m (omega (arith, before)))) (h n (omega arith))

  all_in_map : (P : X → Type 0) (f : ℕ → X) (n : ℕ) → ((i : ℕ) → i < n → P (f i)) → All P (map f (range_with_len 0 n))
  all_in_map P f n h k d within =
      let few : k < n = omega (arith, length-map-range_with_len f 0 n) in
      subst P (sym (get_or-map-range_with_len f 0 n k k d few (omega arith))) (h k few)

-- one more in a loop that goes up
pub pushed : {X : Type 0} (f : ℕ → X) (xs ys zs : List X) (n : ℕ) → zs ≡ ys ++ f n ∷ [] → ys ≡ xs ++ map f (range_with_len 0 n) → zs ≡ xs ++ map f (range_with_len 0 (n + 1))
pushed f xs ys zs n more so_far =
    more ∙ ap (λ l. l ++ f n ∷ []) so_far ∙ append_assoc xs (map f (range_with_len 0 n)) (f n ∷ []) ∙ ap (λ l. xs ++ l) (sym (map-range_with_len_more f 0 n n (omega arith)))

pub numbered : (test : ℕ → Bool) (first : ℕ) (xs ys zs : List ℕ) (n k : ℕ) (b : Bool) → b ≡ test n → k ≡ first + n → zs ≡ ys ++ cond b (k ∷ []) [] → ys ≡ xs ++ numbers_from first test (range_with_len 0 n)
    → zs ≡ xs ++ numbers_from first test (range_with_len 0 (n + 1))
numbered test first xs ys zs n k b passes number more so_far =
    let place : k ≡ first + length (range_with_len 0 n) = omega (arith, length-range_with_len 0 n) in
    let last : cond b (k ∷ []) [] ≡ numbers_from (first + length (range_with_len 0 n)) test (n ∷ []) = ap (λ c. cond c (k ∷ []) []) passes ∙ ap (λ j. cond (test n) (j ∷ []) []) place in
    more ∙ ap (λ l. l ++ cond b (k ∷ []) []) so_far ∙ append_assoc xs (numbers_from first test (range_with_len 0 n)) (cond b (k ∷ []) [])
    ∙ ap (λ l. xs ++ l) (ap (λ l. numbers_from first test (range_with_len 0 n) ++ l) last
    ∙ sym (numbers-append test (range_with_len 0 n) (n ∷ []) first) ∙ ap (numbers_from first test) (sym (range_more n)))

-- ---- the blocks of a kind

-- those of one method more
pub blocks_more : (kind : SpecifiedKind) (m : ℕ) (method slots count : ℕ) (blocks new : List Block) → method ≡ m → slots ≡ slots_at kind.methods m → count ≡ valuations kind m
    → blocks ≡ joined (method_blocks kind) m → new ≡ blocks ++ map (λ bits. record { method = method; bits = bits; slots = slots }) (range_with_len 0 count) → new ≡ joined (method_blocks kind) (m + 1)
blocks_more kind m method slots count blocks new number few many so_far more =
    let of_these : ℕ → ℕ → ℕ → List Block = λ k s n. map (λ bits. record { method = k; bits = bits; slots = s }) (range_with_len 0 n) in
    more ∙ ap (λ l. l ++ of_these method slots count) so_far
    ∙ ap (λ l. joined (method_blocks kind) m ++ l) (ap (λ k. of_these k slots count) number ∙ ap (λ s. of_these m s count) few ∙ ap (of_these m (slots_at kind.methods m)) many)
    ∙ ap (joined (method_blocks kind)) (let e : suc m ≡ m + 1 = omega arith in e)

module _ (kind : SpecifiedKind) where
  of_method : (m : ℕ) → flat_map block_classes (method_blocks kind m) ≡ method_classes kind m
  of_method m =
      let block : ℕ → Block = λ bits. record { method = m; bits = bits; slots = slots_at kind.methods m } in
      flat_map-map block_classes block (range_with_len 0 (valuations kind m)) ∙ flat_range (valuation_classes kind m) (valuations kind m)

  -- the classes of the blocks, one block behind another, are those of the kind
  pub flat_blocks : flat_map block_classes (blocks_of kind) ≡ classes_of kind
  flat_blocks = flat_joined block_classes (method_blocks kind) (length kind.methods)
      ∙ joined_agree (λ m. flat_map block_classes (method_blocks kind m)) (method_classes kind) (length kind.methods) of_method

  pub blocks_known : All (λ block. block.method < length kind.methods) (blocks_of kind)
  blocks_known = all_joined Known (method_blocks kind) (length kind.methods) (λ m known.
      all_in_map Known (λ bits. block m bits) (valuations kind m) (λ i h. known))
    where
      Known : Block → Type 0
      Known block = block.method < length kind.methods

      block : ℕ → ℕ → Block
      block m bits = record { method = m; bits = bits; slots = slots_at kind.methods m }

-- ---- rows

meets_is : (kind : SpecifiedKind) (x y : Block) (s t : Option ℕ) → meets (column kind x y) s t ≡ classes_conflict kind (block_class x s) (block_class y t)
meets_is kind x y s t =
    ap (λ b. b || clash (one_way kind y x) t s) (by (nat_le x.method y.method) (reduced_pair kind x.method x.bits y.method y.bits) s t)
    ∙ ap (λ b. (nat_le x.method y.method && clash (reduced_pair kind x.method x.bits y.method y.bits) s t) || b) (by (nat_le y.method x.method) (reduced_pair kind y.method y.bits x.method x.bits) t s)
  where
    by : (b : Bool) (r : Reduced) (s t : Option ℕ) → clash (cond b r True) s t ≡ (b && clash r s t)
    by true r s t = refl
    by false r s t = refl

module _ (kind : SpecifiedKind) (x : Block) (slot : Option ℕ) where
  abbrev conflicts : ℕ → List Block → List ℕ
  conflicts n blocks = numbers_from n (classes_conflict kind (block_class x slot)) (flat_map block_classes blocks)

  row_is : (blocks : List Block) (n : ℕ) → row_from n slot (map (column kind x) blocks) ≡ conflicts n blocks
  row_is [] n = refl
  row_is (y ∷ blocks) n =
      let test = classes_conflict kind (block_class x slot) in
      let one : numbers_in n slot (column kind x y) ≡ numbers_from n test (block_classes y) =
      numbers_agree (λ i. meets (column kind x y) slot (slot_at i)) (λ i. test (block_class y (slot_at i))) (λ i. meets_is kind x y slot (slot_at i)) (range_with_len 0 (y.slots + 1)) n
      ∙ sym (numbers-map test (λ i. block_class y (slot_at i)) (range_with_len 0 (y.slots + 1)) n) in
      let long : length (block_classes y) ≡ y.slots + 1 = length-map-range_with_len (λ i. block_class y (slot_at i)) 0 (y.slots + 1) in
      ap (λ l. l ++ row_from (n + (y.slots + 1)) slot (map (column kind x) blocks)) one
      ∙ ap (λ l. numbers_from n test (block_classes y) ++ l) (row_is blocks (n + (y.slots + 1)) ∙ ap (λ k. conflicts (n + k) blocks) (sym long))
      ∙ sym (numbers-append test (block_classes y) (flat_map block_classes blocks) n)

  pub row_of_class : row_from 0 slot (map (column kind x) (blocks_of kind)) ≡ conflict_row kind (block_class x slot)
  row_of_class = row_is (blocks_of kind) 0 ∙ ap (numbers_from 0 (classes_conflict kind (block_class x slot))) (flat_blocks kind)

-- ---- how many there are, and how large

module _ (kind : SpecifiedKind) (is : IsKind kind) where
  pub blocks_small : All (λ block. block.slots ≤ 7) (blocks_of kind)
  blocks_small = all_joined Small (method_blocks kind) (length kind.methods) (λ m known.
      all_in_map Small (λ bits. block m bits) (valuations kind m) (λ i h. slots_few kind is m))
    where
      Small : Block → Type 0
      Small block = block.slots ≤ 7

      block : ℕ → ℕ → Block
      block m bits = record { method = m; bits = bits; slots = slots_at kind.methods m }

  pub blocks_few : length (blocks_of kind) ≤ 512
  blocks_few =
      let of_one : (m : ℕ) → m < length kind.methods → length (method_blocks kind m) ≤ 32 = λ m known.
      (let block : ℕ → Block = λ bits. record { method = m; bits = bits; slots = slots_at kind.methods m } in
      omega (arith, length-map-range_with_len block 0 (valuations kind m), valuations_few kind is m)) in
      let all = length-joined (method_blocks kind) (length kind.methods) 32 of_one in
      let few : length kind.methods ≤ 16 = is.draft.methods.few in
      omega arith

-- ---- the rows of the classes, block by block

map_agree : {X Y : Type 0} (f g : X → Y) (xs : List X) → ((x : X) → f x ≡ g x) → map f xs ≡ map g xs
map_agree f g [] h = refl
map_agree f g (x ∷ xs) h = ap (λ y. y ∷ map f xs) (h x) ∙ ap (λ l. g x ∷ l) (map_agree f g xs h)

-- one row more, of which f is seen
pub row_pushed : {X Y : Type 0} (view : X → Y) (f : ℕ → Y) (xs : List Y) (old new : List X) (row : X) (n : ℕ) → new ≡ old ++ row ∷ [] → view row ≡ f n
    → map view old ≡ xs ++ map f (range_with_len 0 n) → map view new ≡ xs ++ map f (range_with_len 0 (n + 1))
row_pushed view f xs old new row n more made so_far =
    pushed f xs (map view old) (map view new) n (ap (map view) more ∙ map_push view old row ∙ ap (λ y. map view old ++ y ∷ []) made) so_far

-- the classes of one block more
pub flat_more : {Y : Type 0} (f : Class → Y) (blocks : List Block) (i : ℕ) (d : Block) (old new : List Y) → i < length blocks
    → old ≡ map f (flat_map block_classes (take i blocks)) → new ≡ old ++ map (λ k. f (block_class (get_or blocks i d) (slot_at k))) (range_with_len 0 ((get_or blocks i d).slots + 1))
    → new ≡ map f (flat_map block_classes (take (i + 1) blocks))
flat_more f blocks i d old new within so_far more =
    let x : Block = get_or blocks i d in
    let classes : List Class = flat_map block_classes (take i blocks) in
    let last : map (λ k. f (block_class x (slot_at k))) (range_with_len 0 (x.slots + 1)) ≡ map f (block_classes x) =
    sym (map-map f (λ k. block_class x (slot_at k)) (range_with_len 0 (x.slots + 1))) in
    let taken : flat_map block_classes (take (i + 1) blocks) ≡ classes ++ block_classes x =
    ap (flat_map block_classes) (take_more blocks i d within) ∙ flat_map-append block_classes (take i blocks) (x ∷ []) ∙ ap (λ l. classes ++ l) (append-nil (block_classes x)) in
    more ∙ ap (λ l. l ++ map (λ k. f (block_class x (slot_at k))) (range_with_len 0 (x.slots + 1))) so_far ∙ ap (λ l. map f classes ++ l) last
    ∙ sym (map-append f classes (block_classes x)) ∙ ap (map f) (sym taken)

pub rows_more : (kind : SpecifiedKind) (blocks : List Block) (i : ℕ) (d : Block) (old new : List (List ℕ)) (columns : List Column) → i < length blocks → blocks ≡ blocks_of kind
    → columns ≡ map (column kind (get_or blocks i d)) blocks → old ≡ map (conflict_row kind) (flat_map block_classes (take i blocks))
    → new ≡ old ++ map (λ k. row_from 0 (slot_at k) columns) (range_with_len 0 ((get_or blocks i d).slots + 1))
    → new ≡ map (conflict_row kind) (flat_map block_classes (take (i + 1) blocks))
rows_more kind blocks i d old new columns within are made so_far more =
    let x : Block = get_or blocks i d in
    let row : (k : ℕ) → row_from 0 (slot_at k) columns ≡ conflict_row kind (block_class x (slot_at k)) = λ k.
    (ap (row_from 0 (slot_at k)) (made ∙ ap (map (column kind x)) are) ∙ row_of_class kind x (slot_at k)) in
    flat_more (conflict_row kind) blocks i d old new within so_far
    (more ∙ ap (λ l. old ++ l) (map_agree (λ k. row_from 0 (slot_at k) columns) (λ k. conflict_row kind (block_class x (slot_at k))) (range_with_len 0 (x.slots + 1)) row))

-- ---- the numbers of the classes

length-joined_same : {X : Type 0} (f : ℕ → List X) (n size : ℕ) → ((m : ℕ) → length (f m) ≡ size) → length (joined f n) ≡ n * size
length-joined_same f zero size h = omega arith
length-joined_same f (suc n) size h =
    let rest : length (joined f n) ≡ n * size = length-joined_same f n size h in
    let last : length (f n) ≡ size = h n in
    let both : length (joined f n ++ f n) ≡ length (joined f n) + length (f n) = length-append (joined f n) (f n) in
    let product : suc n * size ≡ n * size + size = grind arith in
    omega arith

module _ (kind : SpecifiedKind) (m : ℕ) where
  valuations_long : (bits : ℕ) → length (joined (valuation_classes kind m) bits) ≡ bits * (slots_at kind.methods m + 1)
  valuations_long bits = length-joined_same (valuation_classes kind m) bits (slots_at kind.methods m + 1) (λ v. length-map-range_with_len (class v) 0 (slots_at kind.methods m + 1))
    where
      class : ℕ → ℕ → Class
      class v i = record { method = m; bits = v; slot = slot_at i }

  pub method_touches_are : (first slots count : ℕ) → first ≡ length (joined (method_classes kind) m) → slots ≡ slots_at kind.methods m → count ≡ valuations kind m
      → map (λ bits. touches_from (first + bits * (slots + 1)) slots) (range_with_len 0 count) ≡ map (touches_of kind m) (range_with_len 0 (valuations kind m))
  method_touches_are first slots count begins few many =
      let number : (bits : ℕ) → first + bits * (slots + 1) ≡ first_class kind m bits = λ bits.
      (ap (λ k. k + bits * (slots + 1)) begins ∙ ap (λ k. length (joined (method_classes kind) m) + k) (ap (λ s. bits * (s + 1)) few ∙ sym (valuations_long bits))) in
      map_agree (λ bits. touches_from (first + bits * (slots + 1)) slots) (touches_of kind m) (range_with_len 0 count) (λ bits.
      ap (λ k. touches_from k slots) (number bits) ∙ ap (touches_from (first_class kind m bits)) few)
      ∙ ap (λ n. map (touches_of kind m) (range_with_len 0 n)) many

pub count_more : (kind : SpecifiedKind) → IsKind kind → (m first slots count : ℕ) → first ≡ length (joined (method_classes kind) m) → slots ≡ slots_at kind.methods m → count ≡ valuations kind m
    → (first + count * (slots + 1) ≡ length (joined (method_classes kind) (m + 1))) × (count * (slots + 1) ≤ 256)
count_more kind is m first slots count begins few many =
    let step : length (joined (method_classes kind) (m + 1)) ≡ length (joined (method_classes kind) m) + length (method_classes kind m) =
    ap (λ k. length (joined (method_classes kind) k)) (let e : m + 1 ≡ suc m = omega arith in e) ∙ length-append (joined (method_classes kind) m) (method_classes kind m) in
    let size : count * (slots + 1) ≡ length (method_classes kind m) =
    ap (λ k. k * (slots + 1)) many ∙ ap (λ s. valuations kind m * (s + 1)) few ∙ sym (valuations_long kind m (valuations kind m)) in
    let most : count ≤ 32 = subst (λ k. k ≤ 32) (sym many) (valuations_few kind is m) in
    let most_slots : slots ≤ 7 = subst (λ k. k ≤ 7) (sym few) (slots_few kind is m) in
    let small : slots + 1 ≤ 8 = omega arith in
    let product : count * (slots + 1) ≤ 32 * 8 = mul-le-mul most small in
    (omega arith, omega arith)

-- the table of these parts
pub table_is : (kind : SpecifiedKind) (table : PointTable) → table.predicates ≡ (compiled kind).predicates → table.touches ≡ (compiled kind).touches
    → table.plain ≡ (compiled kind).plain → table.conflicts ≡ (compiled kind).conflicts → table ≡ compiled kind
table_is kind table predicates touches plain rows =
    let table_of : List (List Predicate) → List (List (List Touch)) → List Bool → List (List ℕ) → PointTable = λ p t q r. record { predicates = p; touches = t; plain = q; conflicts = r } in
    ap (λ p. table_of p table.touches table.plain table.conflicts) predicates ∙ ap (λ t. table_of (compiled kind).predicates t table.plain table.conflicts) touches
    ∙ ap (λ q. table_of (compiled kind).predicates (compiled kind).touches q table.conflicts) plain ∙ ap (table_of (compiled kind).predicates (compiled kind).touches (compiled kind).plain) rows

-- the test of no value
pub none_is : (o : Option ℕ) (b : Bool) → is_some o ≡ not b → b ≡ is_none o
none_is None true e = refl
none_is None false e = absurd (cc)
none_is (Some k) true e = absurd (cc)
none_is (Some k) false e = refl
