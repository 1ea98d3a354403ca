-- A formula offends where its outline does, which has `true` where a name is used: what a name stands for never offends.
use Rattle.std.proofs.Common.{◌≡◌, ℕ, zero, suc, ◌+◌, ◌≤◌, Bool, true, false, ◌||◌, ◌&&◌, if◌then◌else◌, List, [], ◌∷◌, ◌++◌, length, length-append, Option, Some, None, refl, ap, sym, ◌∙◌, subst, arith}
use Rattle.std.specs.Prelude.{replicate, slice_get}
use Rattle.std.proofs.lemmas.Option.{none-some, same_Some}
use Rattle.rd_ecl.specs.declared.formulas.Outside.{Outside}
use Rattle.rd_ecl.specs.declared.formulas.Reason.{Reason}
use Rattle.rd_ecl.specs.declared.formulas.Reason.TheVariants.{CrossRelation, NotOverCross, OrOfCross}
use Rattle.rd_ecl.specs.declared.formulas.Side.{Side}
use Rattle.rd_ecl.specs.declared.formulas.Side.TheVariants.{First, Second}
use Rattle.rd_ecl.specs.declared.formulas.Term.{Term}
use Rattle.rd_ecl.specs.declared.formulas.Term.TheVariants.{Slot, Const}
use Rattle.rd_ecl.specs.Formulas.{Tree, negation, both, either, InFragment, crosses_sides, first_offence, levels, nodes, offence, or_later, post_order}
use Rattle.rd_ecl.specs.Sides.{on_side}
use Rattle.rd_ecl.proofs.FragmentLemmas.{none_is}
use Rattle.rd_ecl.proofs.SideLemmas.{as_deep, as_many, crosses_there, none_there}
use Rattle.rd_definitions.specs.Definitions.{formula_of}
use Rattle.rd_formulas.specs.declared.scope.Scope.{Scope}
use Rattle.rd_formulas.specs.declared.terms.Meant.{Meant}
use Rattle.rd_formulas.specs.declared.terms.Meant.TheVariants.{Slot as SlotOf, Value as ValueOf}
use Rattle.rd_formulas.specs.Meaning.{cross_relation, earlier, node_tokens, relation_of_terms, sided_relation}
use Rattle.rd_formulas.specs.Reading.{IsFormula}
use Rattle.rd_formulas.specs.Scope.{IsScope, IsTruth, IsUnknownName, MeansAt, Outlines, SaysTree, NameStandsFor, definitions_of, token_bytes_at}
use Rattle.rd_formulas.proofs.BuildingLemmas.{defined_is, given_nodes, given_of, no_value}
use Rattle.rd_grammar.specs.declared.marks.Leaf.TheVariants.{Name, Truth}
use Rattle.rd_grammar.specs.declared.marks.Sign.{Sign}
use Rattle.rd_grammar.specs.declared.marks.Sign.TheVariants.{Equal, Different, Less, AtMost}
use Rattle.rd_grammar.specs.Grammar.{ParsedTree, leaf, relation, negation as read_not, both as read_and, either as read_or}
use Rattle.rd_tokens.specs.declared.words.terms.Said.TheVariants.{Variable}
use Rattle.rd_tokens.proofs.TermLemmas.{one_term_in}
use Rattle.rd_base.specs.declared.limits.TheConstants.{MOST_TOKENS}

-- ---- the first node that offends, by its reason and its token

abbrev pub found_or : Option Reason → ℕ → Option (Reason × ℕ) → Option (Reason × ℕ)
found_or (Some reason) token later = Some (reason, token)
found_or None token later = later

abbrev pub trouble : List Tree → List ℕ → Option (Reason × ℕ)
trouble [] ts = None
trouble (f ∷ fs) [] = None
trouble (f ∷ fs) (t ∷ ts) = found_or (offence f) t (trouble fs ts)

abbrev pub trouble_of : ParsedTree → Tree → Option (Reason × ℕ)
trouble_of read f = trouble (post_order f) (node_tokens read f)

later_of : (x : Option Reason) (t : ℕ) (a b : Option (Reason × ℕ)) → found_or x t (earlier a b) ≡ earlier (found_or x t a) b
later_of (Some reason) t a b = refl
later_of None t a b = refl

trouble_two : (fs gs : List Tree) (ts us : List ℕ) → length ts ≡ length fs → trouble (fs ++ gs) (ts ++ us) ≡ earlier (trouble fs ts) (trouble gs us)
trouble_two [] gs [] us e = refl
trouble_two [] gs (t ∷ ts) us e = absurd (omega (arith, e))
trouble_two (f ∷ fs) gs [] us e = absurd (omega (arith, e))
trouble_two (f ∷ fs) gs (t ∷ ts) us e =
    ap (found_or (offence f) t) (trouble_two fs gs ts us (omega (arith, e))) ∙ later_of (offence f) t (trouble fs ts) (trouble gs us)

trouble_three : (fs gs : List Tree) (x : Tree) (ts us : List ℕ) (token : ℕ) → length ts ≡ length fs → length us ≡ length gs
    → trouble ((fs ++ gs) ++ x ∷ []) ((ts ++ us) ++ token ∷ []) ≡ earlier (earlier (trouble fs ts) (trouble gs us)) (found_or (offence x) token None)
trouble_three fs gs x ts us token e k =
    trouble_two (fs ++ gs) (x ∷ []) (ts ++ us) (token ∷ []) (omega (arith, e, k, length-append ts us, length-append fs gs))
    ∙ ap (λ a. earlier a (found_or (offence x) token None)) (trouble_two fs gs ts us e)

-- none where no node offends, and back
quiet_step : (n : ℕ) (x : Option Reason) (t : ℕ) (later : Option Outside) (more : Option (Reason × ℕ)) → or_later n x later ≡ None → (later ≡ None → more ≡ None)
    → found_or x t more ≡ None
quiet_step n (Some reason) t later more e h = cc
quiet_step n None t later more e h = h e

quiet : (n : ℕ) (fs : List Tree) (ts : List ℕ) → first_offence n fs ≡ None → trouble fs ts ≡ None
quiet n [] ts e = refl
quiet n (f ∷ fs) [] e = refl
quiet n (f ∷ fs) (t ∷ ts) e = quiet_step n (offence f) t (first_offence (n + 1) fs) (trouble fs ts) e (quiet (n + 1) fs ts)

silent_step : (n : ℕ) (x : Option Reason) (t : ℕ) (later : Option Outside) (more : Option (Reason × ℕ)) → found_or x t more ≡ None → (more ≡ None → later ≡ None)
    → or_later n x later ≡ None
silent_step n (Some reason) t later more e h = cc
silent_step n None t later more e h = h e

silent : (n : ℕ) (fs : List Tree) (ts : List ℕ) → length ts ≡ length fs → trouble fs ts ≡ None → first_offence n fs ≡ None
silent n [] ts e h = refl
silent n (f ∷ fs) [] e h = absurd (omega (arith, e))
silent n (f ∷ fs) (t ∷ ts) e h =
    silent_step n (offence f) t (first_offence (n + 1) fs) (trouble fs ts) h (silent (n + 1) fs ts (omega (arith, e)))

-- one where a node offends, and back
after_step : (n : ℕ) (x : Option Reason) (later : Option Outside) (o : Outside) → or_later n x later ≡ Some o → (later ≡ Some o → n + 1 ≤ o.node) → n ≤ o.node
after_step n (Some reason) later o e h =
    let same = ap (λ (it : Outside). it.node) (same_Some (record { node = n; reason = reason }) o e) in omega (arith, same)
after_step n None later o e h = let step = h e in omega (arith, step)

after : (n : ℕ) (fs : List Tree) (o : Outside) → first_offence n fs ≡ Some o → n ≤ o.node
after n [] o e = absurd (cc)
after n (f ∷ fs) o e = after_step n (offence f) (first_offence (n + 1) fs) o e (after (n + 1) fs o)

to_step : (n : ℕ) (x : Option Reason) (t : ℕ) (ts : List ℕ) (later : Option Outside) (more : Option (Reason × ℕ)) (o : Outside) (k number : ℕ)
    → or_later n x later ≡ Some o → o.node ≡ n + k → slice_get (t ∷ ts) k ≡ Some number → (later ≡ Some o → n + 1 ≤ o.node)
    → ((j : ℕ) → later ≡ Some o → o.node ≡ n + 1 + j → slice_get ts j ≡ Some number → more ≡ Some (o.reason, number))
    → found_or x t more ≡ Some (o.reason, number)
to_step n (Some reason) t ts later more o zero number e at here behind next =
    let same = ap (λ (it : Outside). it.reason) (same_Some (record { node = n; reason = reason }) o e) in
    let token = same_Some t number here in
    λ i. Some (same i, token i)
to_step n (Some reason) t ts later more o (suc k) number e at here behind next =
    let same = ap (λ (it : Outside). it.node) (same_Some (record { node = n; reason = reason }) o e) in absurd (omega (arith, same, at))
to_step n None t ts later more o zero number e at here behind next = let step = behind e in absurd (omega (arith, step, at))
to_step n None t ts later more o (suc k) number e at here behind next = next k e (omega (arith, at)) here

to_trouble : (n : ℕ) (fs : List Tree) (ts : List ℕ) (o : Outside) (k number : ℕ) → first_offence n fs ≡ Some o → o.node ≡ n + k → slice_get ts k ≡ Some number
    → trouble fs ts ≡ Some (o.reason, number)
to_trouble n [] ts o k number e at here = absurd (cc)
to_trouble n (f ∷ fs) [] o k number e at here = absurd (none-some number here)
to_trouble n (f ∷ fs) (t ∷ ts) o k number e at here =
    to_step n (offence f) t ts (first_offence (n + 1) fs) (trouble fs ts) o k number e at here (after (n + 1) fs o)
    (λ j. to_trouble (n + 1) fs ts o j number)

abbrev Troubles : ℕ → Option Outside → List ℕ → Reason → ℕ → Type 0
Troubles n first ts reason number = (k : ℕ) × (first ≡ Some (record { node = n + k; reason = reason })) × (slice_get ts k ≡ Some number)

from_step : (n : ℕ) (x : Option Reason) (t : ℕ) (ts : List ℕ) (later : Option Outside) (more : Option (Reason × ℕ)) (reason : Reason) (number : ℕ)
    → found_or x t more ≡ Some (reason, number) → (more ≡ Some (reason, number) → Troubles (n + 1) later ts reason number)
    → Troubles n (or_later n x later) (t ∷ ts) reason number
from_step n (Some other) t ts later more reason number e next =
    let same = same_Some (other, t) (reason, number) e in
    let here : n + 0 ≡ n = omega arith in
    (0, rw here (λ i. Some (record { node = n; reason = (same i).0 })), λ i. Some ((same i).1))
from_step n None t ts later more reason number e next =
    let (k, first, at) = next e in
    let there : n + suc k ≡ n + 1 + k = omega arith in
    (suc k, rw there first, at)

from_trouble : (n : ℕ) (fs : List Tree) (ts : List ℕ) (reason : Reason) (number : ℕ) → trouble fs ts ≡ Some (reason, number)
    → Troubles n (first_offence n fs) ts reason number
from_trouble n [] ts reason number e = absurd (cc)
from_trouble n (f ∷ fs) [] reason number e = absurd (cc)
from_trouble n (f ∷ fs) (t ∷ ts) reason number e =
    from_step n (offence f) t ts (first_offence (n + 1) fs) (trouble fs ts) reason number e (from_trouble (n + 1) fs ts reason number)

-- ---- a relation crosses the sides, and offends, by the sides of its terms alone

abbrev pub side_of : Meant → Option Side
side_of (SlotOf side slot) = Some side
side_of (ValueOf value) = None

abbrev pub differ : Option Side → Option Side → Bool
differ None y = false
differ (Some First) None = false
differ (Some First) (Some First) = false
differ (Some First) (Some Second) = true
differ (Some Second) None = false
differ (Some Second) (Some First) = true
differ (Some Second) (Some Second) = false

one_side : (scope : Scope) (number : ℕ) (x y : Meant) → MeansAt scope number x → MeansAt scope number y → side_of x ≡ side_of y
one_side scope number (SlotOf s i) (SlotOf t j) (a, says, h) (b, told, k) =
    let same : Variable s a ≡ Variable t b = one_term_in scope.dialect (token_bytes_at scope number) (Variable s a) (Variable t b) says told in
    let sides : s ≡ t = cc in
    ap Some sides
one_side scope number (SlotOf s i) (ValueOf w) (a, says, h) k = absurd (no_value scope number w (s, a, says) k)
one_side scope number (ValueOf v) (SlotOf t j) h (b, told, k) = absurd (no_value scope number v (t, b, told) h)
one_side scope number (ValueOf v) (ValueOf w) h k = refl

abbrev pub sign_trouble : Sign → Bool → ℕ → Option (Reason × ℕ)
sign_trouble Equal true token = Some (CrossRelation, token)
sign_trouble Less true token = Some (CrossRelation, token)
sign_trouble AtMost true token = Some (CrossRelation, token)
sign_trouble Different true token = None
sign_trouble sign false token = None

-- a relation with `!=` on one side is two nodes
abbrev pub sign_nodes : Sign → Bool → ℕ
sign_nodes Different false = 2
sign_nodes Different true = 1
sign_nodes Equal crossing = 1
sign_nodes Less crossing = 1
sign_nodes AtMost crossing = 1

abbrev pub IsLike : ℕ → Sign → ℕ → ℕ → Bool → Tree → Type 0
IsLike left sign token right crossing f =
    (crosses_sides f ≡ crossing) × (trouble_of (relation left sign token right) f ≡ sign_trouble sign crossing token)
    × (nodes f ≡ sign_nodes sign crossing) × (levels f ≡ sign_nodes sign crossing)

sided_like : (left : ℕ) (sign : Sign) (token right : ℕ) (side : Side) (x y : Term) → IsLike left sign token right false (sided_relation sign side x y)
sided_like left Equal token right side x y = (refl, refl, refl, refl)
sided_like left Different token right side x y = (refl, refl, refl, refl)
sided_like left Less token right side x y = (refl, refl, refl, refl)
sided_like left AtMost token right side x y = (refl, refl, refl, refl)

across_like : (left : ℕ) (sign : Sign) (token right : ℕ) (flipped : Bool) (i j : ℕ) → IsLike left sign token right true (cross_relation sign flipped i j)
across_like left Equal token right flipped i j = (refl, refl, refl, refl)
across_like left Different token right flipped i j = (refl, refl, refl, refl)
across_like left Less token right flipped i j = (refl, refl, refl, refl)
across_like left AtMost token right flipped i j = (refl, refl, refl, refl)

pub related_like : (left : ℕ) (sign : Sign) (token right : ℕ) (x y : Meant) (f : Tree) → relation_of_terms sign x y ≡ Some f
    → IsLike left sign token right (differ (side_of x) (side_of y)) f
related_like left sign token right (SlotOf First i) (SlotOf First j) f e =
    subst (IsLike left sign token right false) (same_Some _ _ e) (sided_like left sign token right First (Slot i) (Slot j))
related_like left sign token right (SlotOf Second i) (SlotOf Second j) f e =
    subst (IsLike left sign token right false) (same_Some _ _ e) (sided_like left sign token right Second (Slot i) (Slot j))
related_like left sign token right (SlotOf First i) (SlotOf Second j) f e =
    subst (IsLike left sign token right true) (same_Some _ _ e) (across_like left sign token right false i j)
related_like left sign token right (SlotOf Second i) (SlotOf First j) f e =
    subst (IsLike left sign token right true) (same_Some _ _ e) (across_like left sign token right true j i)
related_like left sign token right (SlotOf First i) (ValueOf w) f e =
    subst (IsLike left sign token right false) (same_Some _ _ e) (sided_like left sign token right First (Slot i) (Const w))
related_like left sign token right (SlotOf Second i) (ValueOf w) f e =
    subst (IsLike left sign token right false) (same_Some _ _ e) (sided_like left sign token right Second (Slot i) (Const w))
related_like left sign token right (ValueOf v) (SlotOf First j) f e =
    subst (IsLike left sign token right false) (same_Some _ _ e) (sided_like left sign token right First (Const v) (Slot j))
related_like left sign token right (ValueOf v) (SlotOf Second j) f e =
    subst (IsLike left sign token right false) (same_Some _ _ e) (sided_like left sign token right Second (Const v) (Slot j))
related_like left sign token right (ValueOf v) (ValueOf w) f e = absurd (cc)

same_crossing : (scope : Scope) (left right : ℕ) (x y z w : Meant) → MeansAt scope left x → MeansAt scope right y → MeansAt scope left z → MeansAt scope right w
    → differ (side_of x) (side_of y) ≡ differ (side_of z) (side_of w)
same_crossing scope left right x y z w h k i j =
    let first = one_side scope left x z h i in
    let second = one_side scope right y w k j in
    λ n. differ (first n) (second n)

-- ---- a formula and its outline

-- they are as large in each relation
pub same_size : (scope : Scope) (left : ℕ) (sign : Sign) (token right : ℕ) (f g : Tree) → SaysTree scope (relation left sign token right) f
    → Outlines scope (relation left sign token right) g → (nodes f ≡ nodes g) × (levels f ≡ levels g)
same_size scope left sign token right f g (x, y, h, k, e) (z, w, i, j, d) =
    let a = related_like left sign token right x y f e in
    let b = related_like left sign token right z w g d in
    let same = ap (sign_nodes sign) (same_crossing scope left right x y z w h k i j) in
    (a.2 ∙ same ∙ sym b.2, a.3 ∙ same ∙ sym b.3)

abbrev AreAlike : ParsedTree → Tree → Tree → Type 0
AreAlike read f g = (crosses_sides f ≡ crosses_sides g) × (trouble_of read f ≡ trouble_of read g)

-- what a name stands for crosses no sides, and offends nowhere
standing_alike : (scope : Scope) (token : ℕ) (f g : Tree) → IsScope scope → NameStandsFor scope token f → IsTruth token g → AreAlike (leaf Name token) f g
standing_alike scope token f g is (side, name, defined, says, found, e) k =
    let has = defined_is scope side name defined is found in
    let sided = on_side side defined in
    rw (e, k) (crosses_there side defined ∙ has.alone, quiet 0 (post_order sided) (replicate (nodes sided) token) (none_there side defined has.alone))

alike : (scope : Scope) (read : ParsedTree) (f g : Tree) → IsScope scope → SaysTree scope read f → Outlines scope read g → AreAlike read f g
alike scope (leaf (Truth value) token) f g is e k = rw (e, k) (refl, refl)
alike scope (leaf Name token) f g is stands k = standing_alike scope token f g is stands k
alike scope (relation left sign token right) f g is (x, y, h, k, e) (z, w, i, j, d) =
    let a = related_like left sign token right x y f e in
    let b = related_like left sign token right z w g d in
    let same = same_crossing scope left right x y z w h k i j in
    (a.0 ∙ same ∙ sym b.0, a.1 ∙ ap (λ crossing. sign_trouble sign crossing token) same ∙ sym b.1)
alike scope (read_not token read) f g is (h, e, says) (k, d, outlines) =
    let sub = alike scope read h k is says outlines in
    let a = trouble_two (post_order h) (negation h ∷ []) (node_tokens read h) (token ∷ []) (given_nodes (MeansAt scope) (NameStandsFor scope) read h says) in
    let b = trouble_two (post_order k) (negation k ∷ []) (node_tokens read k) (token ∷ []) (given_nodes (MeansAt scope) IsTruth read k outlines) in
    rw (e, d) (sub.0, a ∙ (λ n. earlier (sub.1 n) (found_or (if sub.0 n then Some NotOverCross else None) token None)) ∙ sym b)
alike scope (read_and left token right) f g is (h, i, e, says, told) (k, l, d, outlines, drawn) =
    let first = alike scope left h k is says outlines in
    let second = alike scope right i l is told drawn in
    let a = trouble_three (post_order h) (post_order i) (both h i) (node_tokens left h) (node_tokens right i) token
    (given_nodes (MeansAt scope) (NameStandsFor scope) left h says) (given_nodes (MeansAt scope) (NameStandsFor scope) right i told) in
    let b = trouble_three (post_order k) (post_order l) (both k l) (node_tokens left k) (node_tokens right l) token
    (given_nodes (MeansAt scope) IsTruth left k outlines) (given_nodes (MeansAt scope) IsTruth right l drawn) in
    rw (e, d) ((λ n. first.0 n || second.0 n), a ∙ (λ n. earlier (earlier (first.1 n) (second.1 n)) None) ∙ sym b)
alike scope (read_or left token right) f g is (h, i, e, says, told) (k, l, d, outlines, drawn) =
    let first = alike scope left h k is says outlines in
    let second = alike scope right i l is told drawn in
    let a = trouble_three (post_order h) (post_order i) (either h i) (node_tokens left h) (node_tokens right i) token
    (given_nodes (MeansAt scope) (NameStandsFor scope) left h says) (given_nodes (MeansAt scope) (NameStandsFor scope) right i told) in
    let b = trouble_three (post_order k) (post_order l) (either k l) (node_tokens left k) (node_tokens right l) token
    (given_nodes (MeansAt scope) IsTruth left k outlines) (given_nodes (MeansAt scope) IsTruth right l drawn) in
    rw (e, d) (
      (λ n. first.0 n || second.0 n),
      a ∙ (λ n. earlier (earlier (first.1 n) (second.1 n)) (found_or (if first.0 n && second.0 n then Some OrOfCross else None) token None)) ∙ sym b,
    )

pub crosses_alike : (scope : Scope) (read : ParsedTree) (f g : Tree) → IsScope scope → SaysTree scope read f → Outlines scope read g
    → crosses_sides f ≡ crosses_sides g
crosses_alike scope read f g is says outlines = (alike scope read f g is says outlines).0

-- so the first node that offends has the same reason and the same token
pub offends_alike : (scope : Scope) (read : ParsedTree) (f g : Tree) (node number : ℕ) (reason : Reason) → IsScope scope → SaysTree scope read f → Outlines scope read g
    → first_offence 0 (post_order g) ≡ Some (record { node = node; reason = reason }) → slice_get (node_tokens read g) node ≡ Some number
    → (other : ℕ) × (first_offence 0 (post_order f) ≡ Some (record { node = other; reason = reason })) × (slice_get (node_tokens read f) other ≡ Some number)
offends_alike scope read f g node number reason is says outlines first at =
    let same = (alike scope read f g is says outlines).1 in
    let o : Outside = record { node = node; reason = reason } in
    let (other, found, there) =
    from_trouble 0 (post_order f) (node_tokens read f) reason number
    (same ∙ to_trouble 0 (post_order g) (node_tokens read g) o node number first (omega arith) at) in
    let from_none : 0 + other ≡ other = omega arith in
    (other, subst (λ k. first_offence 0 (post_order f) ≡ Some (record { node = k; reason = reason })) from_none found, there)

-- and the formula is in the fragment where its outline is
pub inside_alike : (scope : Scope) (read : ParsedTree) (f g : Tree) → IsScope scope → SaysTree scope read f → Outlines scope read g → InFragment g → InFragment f
inside_alike scope read f g is says outlines inside =
    let same = (alike scope read f g is says outlines).1 in
    let none = quiet 0 (post_order g) (node_tokens read g) ((none_is g).1 inside) in
    (none_is f).0 (silent 0 (post_order f) (node_tokens read f) (given_nodes (MeansAt scope) (NameStandsFor scope) read f says) (same ∙ none))

-- what a name stands for is one formula
pub one_standing : (scope : Scope) (token : ℕ) (f g : Tree) → NameStandsFor scope token f → NameStandsFor scope token g → f ≡ g
one_standing scope token f g (side, name, defined, says, found, e) (other, word, formula, told, there, d) =
    let same : Variable side name ≡ Variable other word =
    one_term_in scope.dialect (token_bytes_at scope token) (Variable side name) (Variable other word) says told in
    let sides : side ≡ other = cc in
    let names : name ≡ word = cc in
    let defs : defined ≡ formula = same_Some defined formula (sym found ∙ (λ i. formula_of (definitions_of scope (sides i)) (names i)) ∙ there) in
    e ∙ (λ i. on_side (sides i) (defs i)) ∙ sym d

-- and the name is known
pub standing_known : (scope : Scope) (token : ℕ) (f : Tree) → NameStandsFor scope token f → ¬ (IsUnknownName scope token)
standing_known scope token f (side, name, defined, says, found, e) (other, word, told, none) =
    let same : Variable side name ≡ Variable other word =
    one_term_in scope.dialect (token_bytes_at scope token) (Variable side name) (Variable other word) says told in
    let sides : side ≡ other = cc in
    let names : name ≡ word = cc in
    none-some defined (sym none ∙ (λ i. formula_of (definitions_of scope (sym sides i)) (sym names i)) ∙ found)

-- as large as its definition's
pub standing_size : (scope : Scope) (token : ℕ) (side : Side) (defined f : Tree) → NameStandsFor scope token (on_side side defined) → NameStandsFor scope token f
    → (nodes f ≡ nodes defined) × (levels f ≡ levels defined)
standing_size scope token side defined f here stands =
    let same = one_standing scope token f (on_side side defined) stands here in
    (ap nodes same ∙ as_many side defined, ap levels same ∙ as_deep side defined)

pub said_formula : (scope : Scope) (read : ParsedTree) (f g : Tree) → IsScope scope → SaysTree scope read f → Outlines scope read g → InFragment g → nodes f ≤ MOST_TOKENS
    → IsFormula scope f
said_formula scope read f g is says outlines inside few =
    let of = given_of scope read f is says in
    record { fits = of.0; slots = of.1; inside = inside_alike scope read f g is says outlines inside; few = few }
