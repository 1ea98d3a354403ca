-- The numbers that a formula names are those of its marks.
use Rattle.std.proofs.Common.{◌≡◌, ◌<◌, ℕ, Bool, true, false, not, cond, Some, List, [], ◌∷◌, ◌++◌, length, map, filter, refl, sym, ◌∙◌, ap, subst, arith, append_assoc, append-nil, length-append}
use Rattle.std.specs.Prelude.{slice_get}
use Rattle.std.proofs.Math.Seq.{get_or-append_seam}
use Rattle.std.proofs.lemmas.Option.{slice_get-get_or}
use Rattle.std.proofs.lemmas.List.{map-append}
use Rattle.std.proofs.lemmas.List.Elements.{filter-append}
use Rattle.rd_grammar.specs.declared.marks.Mark.{Mark}
use Rattle.rd_grammar.specs.declared.marks.Sign.{Sign}
use Rattle.rd_grammar.specs.declared.marks.Symbol.{Symbol}
use Rattle.rd_grammar.specs.declared.marks.Symbol.TheVariants.{Open, Close, Not, And, Or, Leaf as LeafOf, Sign as SignOf, Term}
use Rattle.rd_grammar.specs.Grammar.{ParsedTree, relation, is_term, Level, disj, MarksSay, disj_one, disj_or, conj_one, conj_and, neg_one, neg_not, prim_leaf, prim_in, prim_relation}
use Rattle.rd_grammar.specs.Numbers.{AreNumbered, StandsAt, TermAt, NamesMarks, is_parenthesis, numbers_of, named_by}

-- a mark behind others
record Placed (all : List Mark) (front : List Mark) (m : Mark) : Type 0 where
  at : slice_get all m.token ≡ Some m
  number : m.token ≡ length front

placed : (all : List Mark) → AreNumbered all → (front back : List Mark) (m : Mark) → all ≡ front ++ m ∷ back → Placed all front m
placed all numbered front back m same =
    let within : length front < length (front ++ m ∷ back) = omega (arith, length-append front (m ∷ back)) in
    let seam : slice_get (front ++ m ∷ back) (length front) ≡ Some m =
    slice_get-get_or (front ++ m ∷ back) (length front) m within ∙ ap Some (get_or-append_seam front m back m) in
    let here : slice_get all (length front) ≡ Some m = subst (λ x. slice_get x (length front) ≡ Some m) (sym same) seam in
    let number : m.token ≡ length front = numbered (length front) m here in
    record { at = subst (λ n. slice_get all n ≡ Some m) (sym number) here; number = number }

stands_at : (all front : List Mark) (m : Mark) (x : Symbol) → Placed all front m → m.symbol ≡ x → StandsAt all x m.token
stands_at all front m x here is = here.at ∙ ap (λ y. Some (record { symbol = y; token = m.token })) is

term_at : (all front : List Mark) (m : Mark) → Placed all front m → is_term m.symbol ≡ true → TermAt all m.token
term_at all front m here is = (m.symbol, is, here.at)

relation_names : (all : List Mark) → AreNumbered all → (front back : List Mark) (l m r : Mark) (sign : Sign) → is_term l.symbol ≡ true → m.symbol ≡ SignOf sign → is_term r.symbol ≡ true
    → all ≡ front ++ l ∷ m ∷ r ∷ back → NamesMarks all (relation l.token sign m.token r.token)
relation_names all numbered front back l m r sign first signs second same =
    let at_l = placed all numbered front (m ∷ r ∷ back) l same in
    let at_m = placed all numbered (front ++ l ∷ []) (r ∷ back) m (rw same (simp append_assoc)) in
    let at_r = placed all numbered (front ++ l ∷ m ∷ []) back r (rw same (simp append_assoc)) in
    let number_l : l.token ≡ length front = at_l.number in
    let number_m : m.token ≡ length (front ++ l ∷ []) = at_m.number in
    let number_r : r.token ≡ length (front ++ l ∷ m ∷ []) = at_r.number in (
      term_at all front l at_l first,
      stands_at all (front ++ l ∷ []) m (SignOf sign) at_m signs,
      term_at all (front ++ l ∷ m ∷ []) r at_r second,
      omega (arith, length-append front (l ∷ [])),
      omega (arith, length-append front (l ∷ []), length-append front (l ∷ m ∷ [])),
    )

names : {l : Level} {ms : List Mark} {f : ParsedTree} → MarksSay l ms f → (all : List Mark) → AreNumbered all → (front back : List Mark) → all ≡ front ++ (ms ++ back) → NamesMarks all f
names (disj_one says) all numbered front back same = names says all numbered front back same
names (disj_or {ms = ms} {ns = ns} left m is right) all numbered front back same = (
  names left all numbered front (m ∷ ns ++ back) (rw same (simp append_assoc)),
  stands_at all (front ++ ms) m Or (placed all numbered (front ++ ms) (ns ++ back) m (rw same (simp append_assoc))) is,
  names right all numbered (front ++ ms ++ m ∷ []) back (rw same (simp append_assoc)),
)
names (conj_one says) all numbered front back same = names says all numbered front back same
names (conj_and {ms = ms} {ns = ns} left m is right) all numbered front back same = (
  names left all numbered front (m ∷ ns ++ back) (rw same (simp append_assoc)),
  stands_at all (front ++ ms) m And (placed all numbered (front ++ ms) (ns ++ back) m (rw same (simp append_assoc))) is,
  names right all numbered (front ++ ms ++ m ∷ []) back (rw same (simp append_assoc)),
)
names (neg_one says) all numbered front back same = names says all numbered front back same
names (neg_not {ms = ms} m is says) all numbered front back same = (
  stands_at all front m Not (placed all numbered front (ms ++ back) m same) is,
  names says all numbered (front ++ m ∷ []) back (rw same (simp append_assoc)),
)
names (prim_leaf m word is) all numbered front back same = stands_at all front m (LeafOf word) (placed all numbered front back m same) is
names (prim_in {ms = ms} opening closing opens says closes) all numbered front back same =
    names says all numbered (front ++ opening ∷ []) (closing ∷ back) (rw same (simp append_assoc))
names (prim_relation l m r sign first signs second) all numbered front back same =
    relation_names all numbered front back l m r sign first signs second same

pub names_marks : (ms : List Mark) (f : ParsedTree) → AreNumbered ms → MarksSay disj ms f → NamesMarks ms f
names_marks ms f numbered says = names says ms numbered [] [] (sym (append-nil ms))

-- in order

numbers_append : (ms ns : List Mark) → numbers_of (ms ++ ns) ≡ numbers_of ms ++ numbers_of ns
numbers_append ms ns =
    ap (map (λ m. m.token)) (filter-append (λ m. not (is_parenthesis m.symbol)) ms ns)
    ∙ map-append (λ m. m.token) (filter (λ m. not (is_parenthesis m.symbol)) ms) (filter (λ m. not (is_parenthesis m.symbol)) ns)

-- one mark more, by whether it is a parenthesis
abbrev numbers_with : Mark → List Mark → Bool → List ℕ
numbers_with m ms left_out =
    map (λ x. x.token) (cond (not left_out) (m ∷ filter (λ x. not (is_parenthesis x.symbol)) ms) (filter (λ x. not (is_parenthesis x.symbol)) ms))

counted : (m : Mark) (ms : List Mark) → is_parenthesis m.symbol ≡ false → numbers_of (m ∷ ms) ≡ m.token ∷ numbers_of ms
counted m ms is = ap (numbers_with m ms) is

left_out : (m : Mark) (ms : List Mark) → is_parenthesis m.symbol ≡ true → numbers_of (m ∷ ms) ≡ numbers_of ms
left_out m ms is = ap (numbers_with m ms) is

term_counted : (x : Symbol) → is_term x ≡ true → is_parenthesis x ≡ false
term_counted (LeafOf word) is = refl
term_counted Term is = refl
term_counted _ is = absurd (cc)

of_two : (ms ns : List Mark) (f g : ParsedTree) (m : Mark) → is_parenthesis m.symbol ≡ false → numbers_of ms ≡ named_by f → numbers_of ns ≡ named_by g
    → numbers_of (ms ++ m ∷ ns) ≡ named_by f ++ m.token ∷ named_by g
of_two ms ns f g m is left right =
    numbers_append ms (m ∷ ns) ∙ ap (λ x. x ++ numbers_of (m ∷ ns)) left ∙ ap (λ x. named_by f ++ x) (counted m ns is ∙ ap (λ x. m.token ∷ x) right)

in_parentheses : (ms : List Mark) (f : ParsedTree) (opening closing : Mark) → opening.symbol ≡ Open → closing.symbol ≡ Close → numbers_of ms ≡ named_by f
    → numbers_of (opening ∷ ms ++ closing ∷ []) ≡ named_by f
in_parentheses ms f opening closing opens closes inner =
    left_out opening (ms ++ closing ∷ []) (ap is_parenthesis opens)
    ∙ numbers_append ms (closing ∷ [])
    ∙ ap (λ x. numbers_of ms ++ x) (left_out closing [] (ap is_parenthesis closes))
    ∙ append-nil (numbers_of ms)
    ∙ inner

pub in_order : {l : Level} {ms : List Mark} {f : ParsedTree} → MarksSay l ms f → numbers_of ms ≡ named_by f
in_order (disj_one says) = in_order says
in_order (disj_or {ms = ms} {ns = ns} {f = f} {g = g} left m is right) = of_two ms ns f g m (ap is_parenthesis is) (in_order left) (in_order right)
in_order (conj_one says) = in_order says
in_order (conj_and {ms = ms} {ns = ns} {f = f} {g = g} left m is right) = of_two ms ns f g m (ap is_parenthesis is) (in_order left) (in_order right)
in_order (neg_one says) = in_order says
in_order (neg_not {ms = ms} {f = f} m is says) = counted m ms (ap is_parenthesis is) ∙ ap (λ x. m.token ∷ x) (in_order says)
in_order (prim_leaf m word is) = counted m [] (ap is_parenthesis is)
in_order (prim_in {ms = ms} {f = f} opening closing opens says closes) = in_parentheses ms f opening closing opens closes (in_order says)
in_order (prim_relation l m r sign first signs second) =
    counted l (m ∷ r ∷ []) (term_counted l.symbol first)
    ∙ ap (λ x. l.token ∷ x) (counted m (r ∷ []) (ap is_parenthesis signs) ∙ ap (λ x. m.token ∷ x) (counted r [] (term_counted r.symbol second)))
