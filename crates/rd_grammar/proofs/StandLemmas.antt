-- What the machine reads is what the grammar says: what the marks in front of each state are, mark by mark.
use Rattle.std.proofs.Common.{◌≡◌, ℕ, true, Option, Some, None, List, [], ◌∷◌, ◌++◌, refl, sym, ◌∙◌, ap, subst, append_assoc, append-nil}
use Rattle.rd_grammar.specs.declared.marks.Leaf.{Leaf}
use Rattle.rd_grammar.specs.declared.marks.Leaf.TheVariants.{Truth}
use Rattle.rd_grammar.specs.declared.marks.Mark.{Mark}
use Rattle.rd_grammar.specs.declared.marks.Sign.{Sign}
use Rattle.rd_grammar.specs.declared.marks.Sign.TheVariants.{Equal}
use Rattle.rd_grammar.specs.declared.marks.Symbol.{Symbol}
use Rattle.rd_grammar.specs.declared.marks.Symbol.TheVariants.{Open, Close, Not, And, Or, Leaf as LeafOf, Sign as SignOf, Term}
use Rattle.rd_grammar.specs.Grammar.{ParsedTree, leaf, relation, negation, either, is_term, disj, conj, neg, prim, MarksSay, disj_one, disj_or, conj_one, conj_and, neg_one, neg_not, prim_leaf, prim_in, prim_relation}
use Rattle.rd_grammar.specs.Machine.{Left, Pending, State, want, lead, sided, signed, have, empty, start, nots_of, and_with, or_with, behind_operand, with_not, behind_and, behind_or, behind_parenthesis, from_want, from_lead, from_sided, from_signed, from_have, step, whole_formula, formula_at_end}
use Rattle.rd_grammar.proofs.FirstWrong.{correct, ended, onward}
use Rattle.rd_grammar.proofs.RunLemmas.{run, Free, lead_is_have}

-- the marks are two lists, one after the other
record Joined (P Q : List Mark → Type 0) (ms : List Mark) : Type 0 where
  front : List Mark
  back : List Mark
  parts : ms ≡ front ++ back
  left : P front
  right : Q back

-- the marks since the last open parenthesis: what stands before the last `or`, and a conjunction
record Fills (f : ParsedTree) (o : Option Left) (ms : List Mark) : Type 0 where
  front : List Mark
  back : List Mark
  parts : ms ≡ front ++ back
  says : MarksSay conj back f
  takes : (ns : List Mark) (g : ParsedTree) → MarksSay conj ns g → MarksSay disj (front ++ ns) (or_with o g)

-- the marks up to the last open parenthesis
abbrev Behind : List Pending → List Mark → Type 0
Behind [] ms = ms ≡ []
Behind (p ∷ st) ms = (front : List Mark) × (m : Mark) × (ms ≡ front ++ m ∷ []) × (m.symbol ≡ Open)
    × ((ns : List Mark) (f : ParsedTree) → MarksSay neg ns f → Joined (Behind st) (Fills (and_with p.ands (nots_of p.nots f)) p.ors) (front ++ ns))

abbrev HasRead : ParsedTree → Option Left → List Pending → List Mark → Type 0
HasRead f o st ms = Joined (Behind st) (Fills f o) ms

-- an operand behind these marks completes a formula
abbrev Takes : Pending → List Pending → List Mark → Type 0
Takes p st ms = (ns : List Mark) (f : ParsedTree) → MarksSay neg ns f → HasRead (and_with p.ands (nots_of p.nots f)) p.ors st (ms ++ ns)

record LeadStands (word : Leaf) (n : ℕ) (p : Pending) (st : List Pending) (ms : List Mark) : Type 0 where
  front : List Mark
  mark : Mark
  parts : ms ≡ front ++ mark ∷ []
  is : mark.symbol ≡ LeafOf word
  number : mark.token ≡ n
  takes : Takes p st front

record SidedStands (n : ℕ) (p : Pending) (st : List Pending) (ms : List Mark) : Type 0 where
  front : List Mark
  mark : Mark
  parts : ms ≡ front ++ mark ∷ []
  is : is_term mark.symbol ≡ true
  number : mark.token ≡ n
  takes : Takes p st front

record SignedStands (n : ℕ) (sign : Sign) (k : ℕ) (p : Pending) (st : List Pending) (ms : List Mark) : Type 0 where
  front : List Mark
  term : Mark
  mark : Mark
  parts : ms ≡ front ++ term ∷ mark ∷ []
  is : is_term term.symbol ≡ true
  number : term.token ≡ n
  signs : mark.symbol ≡ SignOf sign
  sign_number : mark.token ≡ k
  takes : Takes p st front

abbrev Stands : State → List Mark → Type 0
Stands (want p st) ms = Takes p st ms
Stands (lead word n p st) ms = LeadStands word n p st ms
Stands (sided n p st) ms = SidedStands n p st ms
Stands (signed n sign k p st) ms = SignedStands n sign k p st ms
Stands (have f o st) ms = HasRead f o st ms

starts : Stands start []
starts ns f says = record {
  front = [];
  back = ns;
  parts = refl;
  left = refl;
  right = record { front = []; back = ns; parts = refl; says = conj_one says; takes = λ ms g h. disj_one h };
}

fills_disj : (f : ParsedTree) (o : Option Left) (ms : List Mark) → Fills f o ms → MarksSay disj ms (or_with o f)
fills_disj f o ms fills = subst (λ x. MarksSay disj x (or_with o f)) (sym fills.parts) (fills.takes fills.back f fills.says)

open_takes : (p : Pending) (st : List Pending) (ms : List Mark) (m : Mark) → m.symbol ≡ Open → Takes p st ms → Takes empty (p ∷ st) (ms ++ m ∷ [])
open_takes p st ms m is takes ns f says = record {
  front = ms ++ m ∷ [];
  back = ns;
  parts = refl;
  left = (ms, m, refl, is, takes);
  right = record { front = []; back = ns; parts = refl; says = conj_one says; takes = λ ns g h. disj_one h };
}

not_takes : (p : Pending) (st : List Pending) (ms : List Mark) (m : Mark) → m.symbol ≡ Not → Takes p st ms → Takes (with_not p m.token) st (ms ++ m ∷ [])
not_takes p st ms m is takes ns f says =
    subst (HasRead (and_with p.ands (nots_of p.nots (negation m.token f))) p.ors st) (sym (append_assoc ms (m ∷ []) ns))
    (takes (m ∷ ns) (negation m.token f) (neg_not m is says))

and_takes : (f : ParsedTree) (o : Option Left) (st : List Pending) (ms : List Mark) (m : Mark) → m.symbol ≡ And → HasRead f o st ms → Takes (behind_and f o m.token) st (ms ++ m ∷ [])
and_takes f o st ms m is read ns g says =
    let fills = read.right in
    let parts = read.parts in
    let inner = fills.parts in
    record {
      front = read.front;
      back = read.back ++ m ∷ ns;
      parts = rw parts (simp append_assoc);
      left = read.left;
      right = record {
        front = fills.front;
        back = fills.back ++ m ∷ ns;
        parts = rw inner (simp append_assoc);
        says = conj_and fills.says m is says;
        takes = fills.takes;
      };
    }

or_takes : (f : ParsedTree) (o : Option Left) (st : List Pending) (ms : List Mark) (m : Mark) → m.symbol ≡ Or → HasRead f o st ms → Takes (behind_or f o m.token) st (ms ++ m ∷ [])
or_takes f o st ms m is read ns g says =
    let parts = read.parts in
    record {
      front = read.front;
      back = (read.back ++ m ∷ []) ++ ns;
      parts = rw parts (simp append_assoc);
      left = read.left;
      right = record {
        front = read.back ++ m ∷ [];
        back = ns;
        parts = refl;
        says = conj_one says;
        takes = λ us h also. subst (λ x. MarksSay disj x (either (or_with o f) m.token h)) (sym (append_assoc read.back (m ∷ []) us))
            (disj_or (fills_disj f o read.back read.right) m is also);
      };
    }

close_reads : (f : ParsedTree) (o : Option Left) (p : Pending) (st : List Pending) (ms : List Mark) (m : Mark) → m.symbol ≡ Close → HasRead f o (p ∷ st) ms
    → Stands (behind_operand (or_with o f) p st) (ms ++ m ∷ [])
close_reads f o p st ms m is read =
    let outer = read.left in
    let inside : MarksSay prim (outer.1 ∷ read.back ++ m ∷ []) (or_with o f) = prim_in outer.1 m outer.3 (fills_disj f o read.back read.right) is in
    let parts = read.parts in
    let before = outer.2 in
    let same : outer.0 ++ (outer.1 ∷ read.back ++ m ∷ []) ≡ ms ++ m ∷ [] = rw (parts, before) (simp append_assoc) in
    subst (Stands (behind_operand (or_with o f) p st)) same (outer.4 (outer.1 ∷ read.back ++ m ∷ []) (or_with o f) (neg_one inside))

-- a property of the next state, if there is one
abbrev Next : (State → Type 0) → Option State → Type 0
Next P None = Unit {0}
Next P (Some u) = P u

next_want : (p : Pending) (st : List Pending) (ms : List Mark) (m : Mark) (x : Symbol) → m.symbol ≡ x → Takes p st ms
    → Next (λ u. Stands u (ms ++ m ∷ [])) (from_want p st x m.token)
next_want p st ms m Open is takes = open_takes p st ms m is takes
next_want p st ms m Not is takes = not_takes p st ms m is takes
next_want p st ms m (LeafOf word) is takes = record { front = ms; mark = m; parts = refl; is = is; number = refl; takes = takes }
next_want p st ms m Term is takes = record { front = ms; mark = m; parts = refl; is = ap is_term is; number = refl; takes = takes }
next_want p st ms m _ is takes = tt

next_closed : (f : ParsedTree) (o : Option Left) (st : List Pending) (ms : List Mark) (m : Mark) → m.symbol ≡ Close → HasRead f o st ms
    → Next (λ u. Stands u (ms ++ m ∷ [])) (behind_parenthesis f o st)
next_closed f o [] ms m is read = tt
next_closed f o (p ∷ st) ms m is read = close_reads f o p st ms m is read

next_have : (f : ParsedTree) (o : Option Left) (st : List Pending) (ms : List Mark) (m : Mark) (x : Symbol) → m.symbol ≡ x → HasRead f o st ms
    → Next (λ u. Stands u (ms ++ m ∷ [])) (from_have f o st x m.token)
next_have f o st ms m Close is read = next_closed f o st ms m is read
next_have f o st ms m And is read = and_takes f o st ms m is read
next_have f o st ms m Or is read = or_takes f o st ms m is read
next_have f o st ms m _ is read = tt

-- a word that is a formula or a term that is a formula
lead_reads : (word : Leaf) (n : ℕ) (p : Pending) (st : List Pending) (ms : List Mark) → LeadStands word n p st ms
    → HasRead (and_with p.ands (nots_of p.nots (leaf word n))) p.ors st ms
lead_reads word n p st ms stands =
    let parts = stands.parts in
    let number = stands.number in
    let says : MarksSay neg (stands.mark ∷ []) (leaf word n) =
    subst (λ k. MarksSay neg (stands.mark ∷ []) (leaf word k)) number (neg_one (prim_leaf stands.mark word stands.is)) in
    subst (HasRead (and_with p.ands (nots_of p.nots (leaf word n))) p.ors st) (sym parts) (stands.takes (stands.mark ∷ []) (leaf word n) says)

next_lead : (word : Leaf) (n : ℕ) (p : Pending) (st : List Pending) (ms : List Mark) (m : Mark) (x : Symbol) → m.symbol ≡ x → LeadStands word n p st ms
    → Next (λ u. Stands u (ms ++ m ∷ [])) (from_lead word n p st x m.token)
next_lead word n p st ms m Close is stands = next_closed _ p.ors st ms m is (lead_reads word n p st ms stands)
next_lead word n p st ms m And is stands = and_takes _ p.ors st ms m is (lead_reads word n p st ms stands)
next_lead word n p st ms m Or is stands = or_takes _ p.ors st ms m is (lead_reads word n p st ms stands)
next_lead word n p st ms m (SignOf sign) is stands =
    let parts = stands.parts in
    record {
      front = stands.front;
      term = stands.mark;
      mark = m;
      parts = rw parts (simp append_assoc);
      is = ap is_term stands.is;
      number = stands.number;
      signs = is;
      sign_number = refl;
      takes = stands.takes;
    }
next_lead word n p st ms m _ is stands = tt

next_sided : (n : ℕ) (p : Pending) (st : List Pending) (ms : List Mark) (m : Mark) (x : Symbol) → m.symbol ≡ x → SidedStands n p st ms
    → Next (λ u. Stands u (ms ++ m ∷ [])) (from_sided n p st x m.token)
next_sided n p st ms m (SignOf sign) is stands =
    let parts = stands.parts in
    record {
      front = stands.front;
      term = stands.mark;
      mark = m;
      parts = rw parts (simp append_assoc);
      is = stands.is;
      number = stands.number;
      signs = is;
      sign_number = refl;
      takes = stands.takes;
    }
next_sided n p st ms m _ is stands = tt

-- a relation is an operand
relation_reads : (n : ℕ) (sign : Sign) (k : ℕ) (p : Pending) (st : List Pending) (ms : List Mark) (m : Mark) → is_term m.symbol ≡ true
    → SignedStands n sign k p st ms → Stands (behind_operand (relation n sign k m.token) p st) (ms ++ m ∷ [])
relation_reads n sign k p st ms m is stands =
    let parts = stands.parts in
    let raw : MarksSay neg (stands.term ∷ stands.mark ∷ m ∷ []) (relation stands.term.token sign stands.mark.token m.token) =
    neg_one (prim_relation stands.term stands.mark m sign stands.is stands.signs is) in
    let numbered : MarksSay neg (stands.term ∷ stands.mark ∷ m ∷ []) (relation n sign stands.mark.token m.token) =
    subst (λ i. MarksSay neg (stands.term ∷ stands.mark ∷ m ∷ []) (relation i sign stands.mark.token m.token)) stands.number raw in
    let says : MarksSay neg (stands.term ∷ stands.mark ∷ m ∷ []) (relation n sign k m.token) =
    subst (λ i. MarksSay neg (stands.term ∷ stands.mark ∷ m ∷ []) (relation n sign i m.token)) stands.sign_number numbered in
    let same : stands.front ++ stands.term ∷ stands.mark ∷ m ∷ [] ≡ ms ++ m ∷ [] = rw parts (simp append_assoc) in
    subst (Stands (behind_operand (relation n sign k m.token) p st)) same (stands.takes (stands.term ∷ stands.mark ∷ m ∷ []) (relation n sign k m.token) says)

next_signed : (n : ℕ) (sign : Sign) (k : ℕ) (p : Pending) (st : List Pending) (ms : List Mark) (m : Mark) (x : Symbol) → m.symbol ≡ x → SignedStands n sign k p st ms
    → Next (λ u. Stands u (ms ++ m ∷ [])) (from_signed (relation n sign k m.token) p st x)
next_signed n sign k p st ms m (LeafOf word) is stands = relation_reads n sign k p st ms m (ap is_term is) stands
next_signed n sign k p st ms m Term is stands = relation_reads n sign k p st ms m (ap is_term is) stands
next_signed n sign k p st ms m _ is stands = tt

step_stands : (s : State) (ms : List Mark) (m : Mark) → Stands s ms → Next (λ u. Stands u (ms ++ m ∷ [])) (step s m)
step_stands (want p st) ms m stands = next_want p st ms m m.symbol refl stands
step_stands (lead word n p st) ms m stands = next_lead word n p st ms m m.symbol refl stands
step_stands (sided n p st) ms m stands = next_sided n p st ms m m.symbol refl stands
step_stands (signed n sign k p st) ms m stands = next_signed n sign k p st ms m m.symbol refl stands
step_stands (have f o st) ms m stands = next_have f o st ms m m.symbol refl stands

-- what a result says of the marks that were read
abbrev Says_result : List Mark → Option ParsedTree → Type 0
Says_result ms None = Unit {0}
Says_result ms (Some f) = MarksSay disj ms f

whole_says : (f : ParsedTree) (o : Option Left) (st : List Pending) (ms : List Mark) → HasRead f o st ms → Says_result ms (whole_formula f o st)
whole_says f o [] ms read =
    let parts = read.parts in
    let none : read.front ≡ [] = read.left in
    let same : read.back ≡ ms = rw (parts, none) refl in
    subst (λ x. MarksSay disj x (or_with o f)) same (fills_disj f o read.back read.right)
whole_says f o (p ∷ st) ms read = tt

result_says : (s : State) (ms : List Mark) → Stands s ms → Says_result ms (formula_at_end s)
result_says (want p st) ms stands = tt
result_says (lead word n p st) ms stands = whole_says _ p.ors st ms (lead_reads word n p st ms stands)
result_says (sided n p st) ms stands = tt
result_says (signed n sign k p st) ms stands = tt
result_says (have f o st) ms stands = whole_says f o st ms stands

says_end : (o : Option ParsedTree) (ms : List Mark) (f : ParsedTree) → Says_result ms o → ended step formula_at_end o ≡ correct f → MarksSay disj ms f
says_end None ms f says e = absurd (cc)
says_end (Some g) ms f says e = let same : g ≡ f = cc in subst (MarksSay disj ms) same says

says_on : (o : Option State) (ms : List Mark) (m : Mark) (rest : List Mark) (f : ParsedTree) → Next (λ u. Stands u (ms ++ m ∷ [])) o
    → onward step formula_at_end m rest o ≡ correct f
    → ((u : State) → Stands u (ms ++ m ∷ []) → run u rest ≡ correct f → MarksSay disj ((ms ++ m ∷ []) ++ rest) f)
    → MarksSay disj (ms ++ m ∷ rest) f
says_on None ms m rest f next e later = absurd (cc)
says_on (Some u) ms m rest f next e later = subst (λ x. MarksSay disj x f) (append_assoc ms (m ∷ []) rest) (later u next e)

says_from : (rest : List Mark) (s : State) (ms : List Mark) (f : ParsedTree) → Stands s ms → run s rest ≡ correct f → MarksSay disj (ms ++ rest) f
says_from [] s ms f stands e = subst (λ x. MarksSay disj x f) (sym (append-nil ms)) (says_end (formula_at_end s) ms f (result_says s ms stands) e)
says_from (m ∷ rest) s ms f stands e =
    says_on (step s m) ms m rest f (step_stands s ms m stands) e (λ u stands_on run_on. says_from rest u (ms ++ m ∷ []) f stands_on run_on)

pub says_what_it_reads : (ms : List Mark) (f : ParsedTree) → run start ms ≡ correct f → MarksSay disj ms f
says_what_it_reads ms f e = says_from ms start [] f starts e

-- each state can be finished

abbrev closers : List Pending → List Mark
closers [] = []
closers (p ∷ st) = record { symbol = Close; token = 0 } ∷ closers st

free_closers : (st : List Pending) → Free (closers st)
free_closers [] = tt
free_closers (p ∷ st) = refl

abbrev Finishes : State → Type 0
Finishes s = (more : List Mark) × (f : ParsedTree) × (run s more ≡ correct f)

have_finishes : (f : ParsedTree) (o : Option Left) (st : List Pending) → (g : ParsedTree) × (run (have f o st) (closers st) ≡ correct g)
have_finishes f o [] = (or_with o f, refl)
have_finishes f o (p ∷ st) = have_finishes (and_with p.ands (nots_of p.nots (or_with o f))) p.ors st

pub finishes : (s : State) → (more : List Mark) × (f : ParsedTree) × (run s more ≡ correct f)
finishes (want p st) =
    let end = have_finishes (and_with p.ands (nots_of p.nots (leaf (Truth true) 0))) p.ors st in
    (record { symbol = LeafOf (Truth true); token = 0 } ∷ closers st, end.0, lead_is_have (Truth true) 0 p st (closers st) (free_closers st) ∙ end.1)
finishes (lead word n p st) =
    let end = have_finishes (and_with p.ands (nots_of p.nots (leaf word n))) p.ors st in
    (closers st, end.0, lead_is_have word n p st (closers st) (free_closers st) ∙ end.1)
finishes (sided n p st) =
    let end = have_finishes (and_with p.ands (nots_of p.nots (relation n Equal 0 0))) p.ors st in
    (record { symbol = SignOf Equal; token = 0 } ∷ record { symbol = Term; token = 0 } ∷ closers st, end.0, end.1)
finishes (signed n sign k p st) =
    let end = have_finishes (and_with p.ands (nots_of p.nots (relation n sign k 0))) p.ors st in
    (record { symbol = Term; token = 0 } ∷ closers st, end.0, end.1)
finishes (have f o st) = let end = have_finishes f o st in (closers st, end.0, end.1)
