-- What the grammar says is read so: the machine reads each right list of marks to its end, with the tree that it says.
use Rattle.std.proofs.Common.{◌≡◌, ℕ, true, false, Option, Some, None, List, [], ◌∷◌, ◌++◌, refl, sym, ◌∙◌, ap, append_assoc, append-nil}
use Rattle.rd_grammar.specs.declared.marks.Leaf.{Leaf}
use Rattle.rd_grammar.specs.declared.marks.Mark.{Mark}
use Rattle.rd_grammar.specs.declared.marks.Sign.{Sign}
use Rattle.rd_grammar.specs.declared.marks.Symbol.{Symbol}
use Rattle.rd_grammar.specs.declared.marks.Symbol.TheVariants.{Open, Close, Not, And, Or, Leaf as LeafOf, Sign as SignOf, Term}
use Rattle.rd_grammar.specs.Grammar.{ParsedTree, leaf, relation, negation, both, either, is_term, Level, disj, conj, neg, prim, MarksSay, disj_one, disj_or, conj_one, conj_and, neg_one, neg_not, prim_leaf, prim_in, prim_relation}
use Rattle.rd_grammar.specs.Machine.{Left, Pending, State, want, lead, sided, signed, have, empty, start, or_with, behind_operand, with_not, behind_and, is_sign, step_on, step, formula_at_end}
use Rattle.rd_grammar.proofs.FirstWrong.{Outcome, correct, walk, onward, walk_on}

abbrev pub run : State → List Mark → Outcome Mark ParsedTree
run s ms = walk step formula_at_end s ms

pub on_symbol : (s u : State) (m : Mark) (x : Symbol) (ms : List Mark) → m.symbol ≡ x → step_on s x m.token ≡ Some u → run s (m ∷ ms) ≡ run u ms
on_symbol s u m x ms is steps = walk_on step formula_at_end s m ms u (ap (λ y. step_on s y m.token) is ∙ steps)

-- no sign comes next
abbrev pub Free : List Mark → Type 0
Free [] = Unit {0}
Free (m ∷ ms) = is_sign m.symbol ≡ false

free_before : (m : Mark) (ms : List Mark) (x : Symbol) → m.symbol ≡ x → is_sign x ≡ false → Free (m ∷ ms)
free_before m ms x is sign = ap is_sign is ∙ sign

-- a word that is a formula or a term before which and behind which no sign stands is a formula
steps_alike : (word : Leaf) (n : ℕ) (p : Pending) (st : List Pending) (x : Symbol) (t : ℕ) → is_sign x ≡ false
    → step_on (lead word n p st) x t ≡ step_on (behind_operand (leaf word n) p st) x t
steps_alike word n p st (SignOf sign) t free = absurd (cc)
steps_alike word n p st _ t free = refl

pub lead_is_have : (word : Leaf) (n : ℕ) (p : Pending) (st : List Pending) (rest : List Mark) → Free rest
    → run (lead word n p st) rest ≡ run (behind_operand (leaf word n) p st) rest
lead_is_have word n p st [] free = refl
lead_is_have word n p st (m ∷ ms) free = ap (onward step formula_at_end m ms) (steps_alike word n p st m.symbol m.token free)

-- an operand
abbrev pub RunsOperand : List Mark → ParsedTree → Type 0
RunsOperand ms f = (p : Pending) (st : List Pending) (rest : List Mark) → Free rest → run (want p st) (ms ++ rest) ≡ run (behind_operand f p st) rest

-- behind an `or`, or at the beginning
abbrev pub behind : Option Left → Pending
behind o = record { ors = o; ands = None; nots = [] }

abbrev pub RunsConj : List Mark → ParsedTree → Type 0
RunsConj ms f = (o : Option Left) (st : List Pending) (rest : List Mark) → Free rest → run (want (behind o) st) (ms ++ rest) ≡ run (have f o st) rest

pub record HasRun (ms : List Mark) (f : ParsedTree) (st : List Pending) (rest : List Mark) : Type 0 where
  pub last : ParsedTree
  pub ors : Option Left
  pub whole : or_with ors last ≡ f
  pub runs : run (want empty st) (ms ++ rest) ≡ run (have last ors st) rest

abbrev pub RunsDisj : List Mark → ParsedTree → Type 0
RunsDisj ms f = (st : List Pending) (rest : List Mark) → Free rest → HasRun ms f st rest

disj_of_conj : (ms : List Mark) (f : ParsedTree) → RunsConj ms f → RunsDisj ms f
disj_of_conj ms f runs st rest free = record { last = f; ors = None; whole = refl; runs = runs None st rest free }

disj_of_or : (ms ns : List Mark) (f g : ParsedTree) (m : Mark) → m.symbol ≡ Or → RunsDisj ms f → RunsConj ns g → RunsDisj (ms ++ m ∷ ns) (either f m.token g)
disj_of_or ms ns f g m is left right st rest free =
    let first = left st (m ∷ ns ++ rest) (free_before m (ns ++ rest) Or is refl) in
    let o : Option Left = Some (record { tree = or_with first.ors first.last; token = m.token }) in
    record {
      last = g;
      ors = o;
      whole = ap (λ h. either h m.token g) first.whole;
      runs = ap (run (want empty st)) (append_assoc ms (m ∷ ns) rest) ∙ first.runs
          ∙ on_symbol (have first.last first.ors st) (want (behind o) st) m Or (ns ++ rest) is refl ∙ right o st rest free;
    }

conj_of_operand : (ms : List Mark) (f : ParsedTree) → RunsOperand ms f → RunsConj ms f
conj_of_operand ms f runs o st rest free = runs (behind o) st rest free

conj_of_and : (ms ns : List Mark) (f g : ParsedTree) (m : Mark) → m.symbol ≡ And → RunsConj ms f → RunsOperand ns g → RunsConj (ms ++ m ∷ ns) (both f m.token g)
conj_of_and ms ns f g m is left right o st rest free =
    ap (run (want (behind o) st)) (append_assoc ms (m ∷ ns) rest)
    ∙ left o st (m ∷ ns ++ rest) (free_before m (ns ++ rest) And is refl)
    ∙ on_symbol (have f o st) (want (behind_and f o m.token) st) m And (ns ++ rest) is refl
    ∙ right (behind_and f o m.token) st rest free

operand_of_not : (ms : List Mark) (f : ParsedTree) (m : Mark) → m.symbol ≡ Not → RunsOperand ms f → RunsOperand (m ∷ ms) (negation m.token f)
operand_of_not ms f m is runs p st rest free =
    on_symbol (want p st) (want (with_not p m.token) st) m Not (ms ++ rest) is refl ∙ runs (with_not p m.token) st rest free

operand_of_leaf : (m : Mark) (word : Leaf) → m.symbol ≡ LeafOf word → RunsOperand (m ∷ []) (leaf word m.token)
operand_of_leaf m word is p st rest free =
    on_symbol (want p st) (lead word m.token p st) m (LeafOf word) rest is refl ∙ lead_is_have word m.token p st rest free

operand_in : (ms : List Mark) (f : ParsedTree) (opening closing : Mark) → opening.symbol ≡ Open → closing.symbol ≡ Close → RunsDisj ms f
    → RunsOperand (opening ∷ ms ++ closing ∷ []) f
operand_in ms f opening closing opens closes runs p st rest free =
    let inner = runs (p ∷ st) (closing ∷ rest) (free_before closing rest Close closes refl) in
    on_symbol (want p st) (want empty (p ∷ st)) opening Open ((ms ++ closing ∷ []) ++ rest) opens refl
    ∙ ap (run (want empty (p ∷ st))) (append_assoc ms (closing ∷ []) rest)
    ∙ inner.runs
    ∙ on_symbol (have inner.last inner.ors (p ∷ st)) (behind_operand (or_with inner.ors inner.last) p st) closing Close rest closes refl
    ∙ ap (λ h. run (behind_operand h p st) rest) inner.whole

-- behind a term and a sign
second_term : (n : ℕ) (sign : Sign) (k : ℕ) (p : Pending) (st : List Pending) (r : Mark) (x : Symbol) (rest : List Mark) → r.symbol ≡ x → is_term x ≡ true
    → run (signed n sign k p st) (r ∷ rest) ≡ run (behind_operand (relation n sign k r.token) p st) rest
second_term n sign k p st r (LeafOf word) rest is term =
    on_symbol (signed n sign k p st) (behind_operand (relation n sign k r.token) p st) r (LeafOf word) rest is refl
second_term n sign k p st r Term rest is term =
    on_symbol (signed n sign k p st) (behind_operand (relation n sign k r.token) p st) r Term rest is refl
second_term n sign k p st r _ rest is term = absurd (cc)

first_term : (p : Pending) (st : List Pending) (l m : Mark) (x : Symbol) (sign : Sign) (rest : List Mark) → l.symbol ≡ x → is_term x ≡ true → m.symbol ≡ SignOf sign
    → run (want p st) (l ∷ m ∷ rest) ≡ run (signed l.token sign m.token p st) rest
first_term p st l m (LeafOf word) sign rest is term signs =
    on_symbol (want p st) (lead word l.token p st) l (LeafOf word) (m ∷ rest) is refl
    ∙ on_symbol (lead word l.token p st) (signed l.token sign m.token p st) m (SignOf sign) rest signs refl
first_term p st l m Term sign rest is term signs =
    on_symbol (want p st) (sided l.token p st) l Term (m ∷ rest) is refl
    ∙ on_symbol (sided l.token p st) (signed l.token sign m.token p st) m (SignOf sign) rest signs refl
first_term p st l m _ sign rest is term signs = absurd (cc)

operand_of_relation : (l m r : Mark) (sign : Sign) → is_term l.symbol ≡ true → m.symbol ≡ SignOf sign → is_term r.symbol ≡ true
    → RunsOperand (l ∷ m ∷ r ∷ []) (relation l.token sign m.token r.token)
operand_of_relation l m r sign left signs right p st rest free =
    first_term p st l m l.symbol sign (r ∷ rest) refl left signs ∙ second_term l.token sign m.token p st r r.symbol rest refl right

abbrev pub Runs : Level → List Mark → ParsedTree → Type 0
Runs disj = RunsDisj
Runs conj = RunsConj
Runs neg = RunsOperand
Runs prim = RunsOperand

pub runs : {l : Level} {ms : List Mark} {f : ParsedTree} → MarksSay l ms f → Runs l ms f
runs (disj_one {ms = ms} {f = f} says) = disj_of_conj ms f (runs says)
runs (disj_or {ms = ms} {ns = ns} {f = f} {g = g} left m is right) = disj_of_or ms ns f g m is (runs left) (runs right)
runs (conj_one {ms = ms} {f = f} says) = conj_of_operand ms f (runs says)
runs (conj_and {ms = ms} {ns = ns} {f = f} {g = g} left m is right) = conj_of_and ms ns f g m is (runs left) (runs right)
runs (neg_one says) = runs says
runs (neg_not {ms = ms} {f = f} m is says) = operand_of_not ms f m is (runs says)
runs (prim_leaf m word is) = operand_of_leaf m word is
runs (prim_in {ms = ms} {f = f} opening closing opens says closes) = operand_in ms f opening closing opens closes (runs says)
runs (prim_relation l m r sign left signs right) = operand_of_relation l m r sign left signs right

pub reads_whole : (ms : List Mark) (f : ParsedTree) → MarksSay disj ms f → run start ms ≡ correct f
reads_whole ms f says =
    let read = runs says [] [] tt in
    ap (run start) (sym (append-nil ms)) ∙ read.runs ∙ ap correct read.whole
