-- What the reader's answers say, by what the machine made of the marks.
use Rattle.std.proofs.Common.{◌≡◌, ◌≤◌, ◌<◌, ℕ, suc, Some, None, List, [], ◌++◌, ◌⊎◌, length, get_or, take, drop, sym, ◌∙◌, ap, arith, drop-cons, drop_of_length-le, le_refl}
use Rattle.rd_grammar.specs.declared.marks.Mark.{Mark}
use Rattle.rd_grammar.specs.FirstWrong.{WrongAt}
use Rattle.rd_grammar.specs.Grammar.{ParsedTree, MarksSay, disj}
use Rattle.rd_grammar.specs.Machine.{State, start, step, formula_at_end}
use Rattle.rd_grammar.proofs.FirstWrong.{stuck, ended, first_wrong_at, never_refused, says_one, judged, walk_stops}
use Rattle.rd_grammar.proofs.RunLemmas.{run, reads_whole}
use Rattle.rd_grammar.proofs.StandLemmas.{says_what_it_reads, finishes}

pub says_at_end : (ms : List Mark) (n : ℕ) (s : State) (f : ParsedTree) → length ms ≤ n → run start ms ≡ run s (drop n ms) → formula_at_end s ≡ Some f → MarksSay disj ms f
says_at_end ms n s f past leads ends =
    let none : drop n ms ≡ [] = drop_of_length-le ms past in
    says_what_it_reads ms f (leads ∙ ap (run s) none ∙ ap (ended step formula_at_end) ends)

stuck_at : (ms : List Mark) (n : ℕ) (s : State) (d : Mark) → n < length ms → run start ms ≡ run s (drop n ms) → step s (get_or ms n d) ≡ None
    → run start ms ≡ stuck (drop n ms)
stuck_at ms n s d within leads stops =
    let next = drop-cons ms n d within in
    leads ∙ ap (run s) next ∙ walk_stops step formula_at_end s (get_or ms n d) (drop (suc n) ms) stops ∙ ap stuck (sym next)

stuck_at_end : (ms : List Mark) (n : ℕ) (s : State) → length ms ≤ n → run start ms ≡ run s (drop n ms) → formula_at_end s ≡ None
    → run start ms ≡ stuck (drop (length ms) ms)
stuck_at_end ms n s past leads ends =
    let none : drop n ms ≡ [] = drop_of_length-le ms past in
    let also : drop (length ms) ms ≡ [] = drop_of_length-le ms (le_refl (length ms)) in
    leads ∙ ap (run s) none ∙ ap (ended step formula_at_end) ends ∙ ap stuck (sym also)

wrong_at : (ms : List Mark) (n : ℕ) → n ≤ length ms → run start ms ≡ stuck (drop n ms) → (n ≤ length ms) × WrongAt (MarksSay disj) (take n ms) (drop n ms)
wrong_at ms n within e = (within, first_wrong_at step formula_at_end (MarksSay disj) start reads_whole says_what_it_reads finishes ms n within e)

nothing_said : (ms rest : List Mark) → run start ms ≡ stuck rest → (f : ParsedTree) → ¬ (MarksSay disj ms f)
nothing_said = never_refused step formula_at_end (MarksSay disj) start reads_whole says_what_it_reads finishes

-- a mark that may not come

pub wrong_here : (ms : List Mark) (n : ℕ) (s : State) (d : Mark) → n < length ms → run start ms ≡ run s (drop n ms) → step s (get_or ms n d) ≡ None
    → (n ≤ length ms) × WrongAt (MarksSay disj) (take n ms) (drop n ms)
wrong_here ms n s d within leads stops = wrong_at ms n (omega arith) (stuck_at ms n s d within leads stops)

pub nothing_said_here : (ms : List Mark) (n : ℕ) (s : State) (d : Mark) → n < length ms → run start ms ≡ run s (drop n ms) → step s (get_or ms n d) ≡ None
    → (f : ParsedTree) → ¬ (MarksSay disj ms f)
nothing_said_here ms n s d within leads stops = nothing_said ms (drop n ms) (stuck_at ms n s d within leads stops)

-- marks that may not end

pub wrong_at_end : (ms : List Mark) (n : ℕ) (s : State) → length ms ≤ n → run start ms ≡ run s (drop n ms) → formula_at_end s ≡ None
    → (length ms ≤ length ms) × WrongAt (MarksSay disj) (take (length ms) ms) (drop (length ms) ms)
wrong_at_end ms n s past leads ends = wrong_at ms (length ms) (le_refl (length ms)) (stuck_at_end ms n s past leads ends)

pub nothing_said_at_end : (ms : List Mark) (n : ℕ) (s : State) → length ms ≤ n → run start ms ≡ run s (drop n ms) → formula_at_end s ≡ None
    → (f : ParsedTree) → ¬ (MarksSay disj ms f)
nothing_said_at_end ms n s past leads ends = nothing_said ms (drop (length ms) ms) (stuck_at_end ms n s past leads ends)

pub one_tree : (ms : List Mark) (f g : ParsedTree) → MarksSay disj ms f → MarksSay disj ms g → f ≡ g
one_tree = says_one step formula_at_end (MarksSay disj) start reads_whole says_what_it_reads finishes

pub each_judged : (ms : List Mark) → ((f : ParsedTree) × MarksSay disj ms f) ⊎ ((front : List Mark) × (rest : List Mark) × (ms ≡ front ++ rest) × WrongAt (MarksSay disj) front rest)
each_judged = judged step formula_at_end (MarksSay disj) start reads_whole says_what_it_reads finishes
