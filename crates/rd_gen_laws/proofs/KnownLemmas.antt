-- What is known behind some of the lines of a generated trace.
use Rattle.std.proofs.Common.{◌≡◌, ℕ, ◌+◌, Bool, true, false, List, [], ◌∷◌, ◌++◌, Option, None, refl, sym, ap, ◌∙◌, arith}
use Rattle.std.specs.Prelude.{codes, cond, count_by, ◌&&◌, ⊤}
use Rattle.std.proofs.lemmas.List.{append-nil}
use Rattle.std.proofs.lemmas.List.Elements.{filter_map-append}
use Rattle.std.proofs.lemmas.List.Sums.{sum_by-cons, sum_by_push}
use Rattle.rd_ecl.specs.Kinds.{Kind, kinds_of}
use Rattle.rd_event.specs.declared.items.Line.{Line}
use Rattle.rd_gen.specs.Generated.{opening_lines}
use Rattle.rd_kinds.specs.Shipped.{counter_kind, dictionary_kind, register_kind, set_kind, shipped_kinds}
use Rattle.rd_rules.specs.MayFollow.{acquires, acting_name, begun_name, declared_kind, declared_name, headers, is_acquire_of, is_header, is_release_of, is_share_of, is_unshare_of, joined_name, joined_of, object_kinds, objects_of, passes, releases, same_name, shared_name, shares, threads_of, unshared_name, unshares}
use Rattle.rd_rules.proofs.EventsLemmas.{shares_more, unshares_more}

abbrev pub kinds : List Kind
kinds = kinds_of shipped_kinds

abbrev pub threads : List (List ℕ)
threads = codes "main" ∷ codes "w0" ∷ codes "w1" ∷ codes "w2" ∷ codes "w3" ∷ []

-- how much more often than released the lock was acquired by each thread. No thread shares it
pub record Knows (before : List Line) (joined : List (List ℕ)) (ahead : List ℕ → ℕ) : Type 0 where
  pub headers_are : headers before ≡ 1
  pub threads_are : threads_of before ≡ threads
  pub joined_are : joined_of before ≡ joined
  pub objects_are : objects_of before ≡ codes "d" ∷ []
  pub kinds_are : object_kinds kinds before ≡ 3 ∷ []
  pub lock_is : (thread : List ℕ) → acquires before thread (codes "l") ≡ releases before thread (codes "l") + ahead thread
  pub unshared : (thread : List ℕ) → shares before thread (codes "l") ≡ unshares before thread (codes "l")

abbrev pub nobody : List ℕ → ℕ
nobody thread = 0

abbrev pub held_by : List ℕ → List ℕ → ℕ
held_by holder thread = cond (same_name thread holder) 1 0

pub and_none : (b : Bool) → (b && false) ≡ false
and_none true = refl
and_none false = refl

pub and_true : (b : Bool) → (b && true) ≡ b
and_true true = refl
and_true false = refl

pub acquires_more : (before : List Line) (line : Line) (thread lock : List ℕ)
    → acquires (before ++ line ∷ []) thread lock ≡ acquires before thread lock + cond (is_acquire_of thread lock line) 1 0
unfolding acquires
acquires_more before line thread lock = sum_by_push (λ x. cond (is_acquire_of thread lock x) 1 0) before line

pub releases_more : (before : List Line) (line : Line) (thread lock : List ℕ)
    → releases (before ++ line ∷ []) thread lock ≡ releases before thread lock + cond (is_release_of thread lock line) 1 0
unfolding releases
releases_more before line thread lock = sum_by_push (λ x. cond (is_release_of thread lock x) 1 0) before line

module _ (before : List Line) (line : Line) (thread : List ℕ) where
  none_of : (o : Option (List ℕ)) → o ≡ None → cond {A = ℕ} (passes (acting_name line) (same_name thread) && passes o (same_name (codes "l"))) 1 0 ≡ 0
  none_of o none =
      ap (λ o. cond {A = ℕ} (passes (acting_name line) (same_name thread) && passes o (same_name (codes "l"))) 1 0) none
      ∙ ap (λ b. cond {A = ℕ} b 1 0) (and_none (passes (acting_name line) (same_name thread)))

  shares_same : shared_name line ≡ None → shares (before ++ line ∷ []) thread (codes "l") ≡ shares before thread (codes "l")
  shares_same none = omega (arith, shares_more before line thread (codes "l"), none_of (shared_name line) none)

  unshares_same : unshared_name line ≡ None → unshares (before ++ line ∷ []) thread (codes "l") ≡ unshares before thread (codes "l")
  unshares_same none = omega (arith, unshares_more before line thread (codes "l"), none_of (unshared_name line) none)

-- a line that begins no thread, declares no object and shares no lock
pub knows_more : (before : List Line) (joined more : List (List ℕ)) (ahead now : List ℕ → ℕ) (line : Line) → Knows before joined ahead → is_header line ≡ false
    → begun_name line ≡ None → declared_name line ≡ None → declared_kind kinds line ≡ None → shared_name line ≡ None → unshared_name line ≡ None → joined_of (line ∷ []) ≡ more
    → ((thread : List ℕ) → acquires (before ++ line ∷ []) thread (codes "l") ≡ releases (before ++ line ∷ []) thread (codes "l") + now thread)
    → Knows (before ++ line ∷ []) (joined ++ more) now
knows_more before joined more ahead now line k header begun declared of_kind shared unshared joins lock = record {
  headers_are = sum_by_push (λ x. cond (is_header x) 1 0) before line ∙ ap (λ b. headers before + cond b 1 0) header ∙ omega (arith, k.headers_are);
  threads_are = filter_map-append begun_name before (line ∷ []) ∙ rw begun (append-nil (threads_of before)) ∙ k.threads_are;
  joined_are = filter_map-append joined_name before (line ∷ []) ∙ rw (k.joined_are, joins) refl;
  objects_are = filter_map-append declared_name before (line ∷ []) ∙ rw declared (append-nil (objects_of before)) ∙ k.objects_are;
  kinds_are = filter_map-append (declared_kind kinds) before (line ∷ []) ∙ rw of_kind (append-nil (object_kinds kinds before)) ∙ k.kinds_are;
  lock_is = lock;
  unshared = λ thread. shares_same before line thread shared ∙ k.unshared thread ∙ sym (unshares_same before line thread unshared);
}

-- behind the opening lines
abbrev AreOthers : (Line → Bool) → List Line → Type 0
AreOthers test [] = ⊤
AreOthers test (line ∷ lines) = (test line ≡ false) × AreOthers test lines

none_counted : (test : Line → Bool) (lines : List Line) → AreOthers test lines → count_by test lines ≡ 0
none_counted test [] others = refl
none_counted test (line ∷ lines) others =
    let rest = none_counted test lines others.1 in
    let first = ap {B = ℕ} (λ b. cond b 1 0) others.0 in
    omega (arith, sum_by-cons (λ x. cond (test x) 1 0) line lines, first, rest)

none_acquired : (thread : List ℕ) → acquires opening_lines thread (codes "l") ≡ 0
unfolding acquires
none_acquired thread =
    let other = and_none (same_name thread (codes "main")) in
    none_counted (is_acquire_of thread (codes "l")) opening_lines (refl, (refl, (refl, (other, (other, (other, (other, tt)))))))

none_released : (thread : List ℕ) → releases opening_lines thread (codes "l") ≡ 0
unfolding releases
none_released thread =
    let other = and_none (same_name thread (codes "main")) in
    none_counted (is_release_of thread (codes "l")) opening_lines (refl, (refl, (refl, (other, (other, (other, (other, tt)))))))

none_shared : (thread : List ℕ) → shares opening_lines thread (codes "l") ≡ 0
unfolding shares
none_shared thread =
    let other = and_none (same_name thread (codes "main")) in
    none_counted (is_share_of thread (codes "l")) opening_lines (refl, (refl, (refl, (other, (other, (other, (other, tt)))))))

none_unshared : (thread : List ℕ) → unshares opening_lines thread (codes "l") ≡ 0
unfolding unshares
none_unshared thread =
    let other = and_none (same_name thread (codes "main")) in
    none_counted (is_unshare_of thread (codes "l")) opening_lines (refl, (refl, (refl, (other, (other, (other, (other, tt)))))))

pub knows_opening : Knows opening_lines [] nobody
unfolding counter_kind dictionary_kind register_kind set_kind
knows_opening = record {
  headers_are = refl;
  threads_are = refl;
  joined_are = refl;
  objects_are = refl;
  kinds_are = refl;
  lock_is = λ thread. let first = none_acquired thread in let second = none_released thread in omega arith;
  unshared = λ thread. none_shared thread ∙ sym (none_unshared thread);
}
