-- Edges and reaching: their tests, and what they are in a list with more events.
use Rattle.std.proofs.Common.{◌≡◌, ◌⊎◌, inl, inr, ℕ, zero, suc, ◌<◌, ◌≤◌, ◌==◌, Bool, List, [], ◌∷◌, ◌++◌, length, Option, Some, None, Decides, sym, ◌∙◌, ap, subst, refl, arith, length-append}
use Rattle.std.specs.Prelude.{slice_get, slice_index_or}
use Rattle.std.proofs.lemmas.Bool.{cases_lt}
use Rattle.std.proofs.lemmas.Bool.Decides.{Decides-and, Decides-or, Decides-eqb, Decides-ltb, Decides-like}
use Rattle.std.proofs.lemmas.Option.{slice_get_within, slice_get-get_or, same_Some, none-some}
use Rattle.rd_event.specs.declared.events.Event.{Event}
use Rattle.rd_order.specs.Order.{thread_of, forked_thread, joined_thread, Hold, exclusive, shared, Against, hold_taken, hold_given, Linked, same_thread, begins, ends, spans, hands_over, Edge, Reaches}
use Rattle.rd_order.specs.OrderTests.{is_this, is_same, is_against, is_handed, is_linked, are_linked, is_edge, any_below, reaches_within, reaches}
use Rattle.rd_order.proofs.PathLemmas.{leads_joined, leads_in, leads_rises, last_edge, leads_like}

-- ---- lists

-- what stands in a list stands there too with more behind it
pub at_front : {X : Type 0} (xs ys : List X) (k : ℕ) → k < length xs → slice_get (xs ++ ys) k ≡ slice_get xs k
at_front [] ys k l = absurd (omega arith)
at_front (x ∷ xs) ys zero l = refl
at_front (x ∷ xs) ys (suc k) l = at_front xs ys k (omega arith)

pub at_end : {X : Type 0} (xs : List X) (y : X) → slice_get (xs ++ y ∷ []) (length xs) ≡ Some y
at_end [] y = refl
at_end (x ∷ xs) y = at_end xs y

-- a list with one more
pub length_more : {X : Type 0} (xs : List X) (y : X) → length (xs ++ y ∷ []) ≡ suc (length xs)
length_more xs y = omega (arith, length-append xs (y ∷ []))

-- ---- reaching

pub edge_rises : (es : List Event) (i j : ℕ) → Edge es i j → i < j
edge_rises es i j edge = edge.rises

pub reaches_rises : (es : List Event) (i j : ℕ) → Reaches es i j → i < j
reaches_rises es i j r = leads_rises (Edge es) (edge_rises es) i r.0 j r.1

pub reaches_joined : (es : List Event) (i j k : ℕ) → Reaches es i j → Reaches es j k → Reaches es i k
reaches_joined es i j k r s = (r.0 ++ j ∷ s.0, leads_joined (Edge es) i r.0 j s.0 k r.1 s.1)

pub edge_reaches : (es : List Event) (i j : ℕ) → Edge es i j → Reaches es i j
edge_reaches es i j edge = ([], edge)

pub edge_within : (es : List Event) (i j : ℕ) → Edge es i j → j < length es
edge_within es i j edge = slice_get_within es j edge.b edge.at_j

-- the last step of a path: from its start, or from a place that the start reaches
pub reaches_last : (es : List Event) (i j : ℕ) → Reaches es i j → (m : ℕ) × ((i ≡ m) ⊎ Reaches es i m) × Edge es m j
reaches_last es i j r = elim (last_edge (Edge es) i r.0 j r.1) [
  | inl edge ↦ (i, inl refl, edge)
  | inr more ↦ (more.0, inr more.1, more.2)
]

pub reaches_within_length : (es : List Event) (i j : ℕ) → Reaches es i j → j < length es
reaches_within_length es i j r = let s = reaches_last es i j r in edge_within es s.0 j s.2

-- ---- more events behind

pub edge_longer : (es fs : List Event) (i j : ℕ) → Edge es i j → Edge (es ++ fs) i j
edge_longer es fs i j edge =
    let rises : i < j = edge.rises in
    let inside : j < length es = edge_within es i j edge in
    record {
      rises = rises;
      a = edge.a;
      b = edge.b;
      at_i = at_front es fs i (omega arith) ∙ edge.at_i;
      at_j = at_front es fs j inside ∙ edge.at_j;
      linked = edge.linked;
    }

pub edge_shorter : (es fs : List Event) (i j : ℕ) → j < length es → Edge (es ++ fs) i j → Edge es i j
edge_shorter es fs i j inside edge =
    let rises : i < j = edge.rises in
    record {
      rises = rises;
      a = edge.a;
      b = edge.b;
      at_i = sym (at_front es fs i (omega arith)) ∙ edge.at_i;
      at_j = sym (at_front es fs j inside) ∙ edge.at_j;
      linked = edge.linked;
    }

-- reaching stays as it is when events are appended
pub reaches_longer : (es fs : List Event) (i j : ℕ) → Reaches es i j → Reaches (es ++ fs) i j
reaches_longer es fs i j r =
    (r.0, leads_like (Edge es) (Edge (es ++ fs)) (edge_rises es) i r.0 j (λ a b l. edge_longer es fs a b) r.1)

pub reaches_shorter : (es fs : List Event) (i j : ℕ) → j < length es → Reaches (es ++ fs) i j → Reaches es i j
reaches_shorter es fs i j inside r =
    (r.0, leads_like (Edge (es ++ fs)) (Edge es) (edge_rises (es ++ fs)) i r.0 j (λ a b l. edge_shorter es fs a b (omega arith)) r.1)

-- ---- tests

pub this_decides : (o : Option ℕ) (t : ℕ) → Decides (is_this o t) (o ≡ Some t)
this_decides None t = (λ h. cc, λ h. cc)
this_decides (Some u) t = Decides-like (u == t) (λ e. ap Some e) (λ e. same_Some u t e) (Decides-eqb u t)

same_decides : (o p : Option ℕ) → Decides (is_same o p) ((u : ℕ) × (o ≡ Some u) × (p ≡ Some u))
same_decides None p = (λ h. cc, λ h. absurd (none-some h.0 h.1))
same_decides (Some u) p =
    Decides-like (is_this p u) (λ e. (u, refl, e)) (λ h. subst (λ v. p ≡ Some v) (sym (same_Some u h.0 h.1)) h.2) (this_decides p u)

against_decides : (h k : Hold) → Decides (is_against h k) (Against h k)
against_decides (exclusive lock) (exclusive other) = Decides-eqb lock other
against_decides (exclusive lock) (shared other) = Decides-eqb lock other
against_decides (shared lock) (exclusive other) = Decides-eqb lock other
against_decides (shared lock) (shared other) = (λ h. cc, λ h. absurd h)

-- a hold is given back and one against it is taken
abbrev Handed : Option Hold → Option Hold → Type 0
Handed o p = (h : Hold) × (k : Hold) × (o ≡ Some h) × (p ≡ Some k) × Against h k

handed_decides : (o p : Option Hold) → Decides (is_handed o p) (Handed o p)
handed_decides None p = (λ h. cc, λ h. absurd (none-some h.0 h.2))
handed_decides (Some h) None = (λ e. cc, λ x. absurd (none-some x.1 x.3))
handed_decides (Some h) (Some k) =
    Decides-like (is_against h k)
    (λ a. (h, k, refl, refl, a))
    (λ x. subst (λ v. Against h v) (sym (same_Some k x.1 x.3)) (subst (λ v. Against v x.1) (sym (same_Some h x.0 x.2)) x.4))
    (against_decides h k)

-- the five kinds of link, one of which holds
abbrev Link : Event → Event → Type 0
Link a b =
    (thread_of a ≡ thread_of b)
    ⊎ ((forked_thread a ≡ Some (thread_of b))
    ⊎ ((joined_thread b ≡ Some (thread_of a))
    ⊎ (((u : ℕ) × (forked_thread a ≡ Some u) × (joined_thread b ≡ Some u)) ⊎ Handed (hold_given a) (hold_taken b))))

linked_from : (a b : Event) → Link a b → Linked a b
linked_from a b (inl same) = same_thread same
linked_from a b (inr (inl fork)) = begins fork
linked_from a b (inr (inr (inl join))) = ends join
linked_from a b (inr (inr (inr (inl both)))) = spans both.0 both.1 both.2
linked_from a b (inr (inr (inr (inr x)))) = hands_over x.0 x.1 x.2 x.3 x.4

link_from : (a b : Event) → Linked a b → Link a b
link_from a b (same_thread same) = inl same
link_from a b (begins fork) = inr (inl fork)
link_from a b (ends join) = inr (inr (inl join))
link_from a b (spans u fork join) = inr (inr (inr (inl (u, fork, join))))
link_from a b (hands_over h k back taking against) = inr (inr (inr (inr (h, k, back, taking, against))))

pub linked_decides : (a b : Event) → Decides (is_linked a b) (Linked a b)
unfolding is_linked
linked_decides a b =
    Decides-like (is_linked a b) (linked_from a b) (link_from a b)
    (Decides-or _ _ (Decides-eqb (thread_of a) (thread_of b))
    (Decides-or _ _ (this_decides (forked_thread a) (thread_of b))
    (Decides-or _ _ (this_decides (joined_thread b) (thread_of a))
    (Decides-or _ _ (same_decides (forked_thread a) (joined_thread b)) (handed_decides (hold_given a) (hold_taken b))))))

abbrev AreLinked : Option Event → Option Event → Type 0
AreLinked o p = (a : Event) × (b : Event) × (o ≡ Some a) × (p ≡ Some b) × Linked a b

are_linked_decides : (o p : Option Event) → Decides (are_linked o p) (AreLinked o p)
are_linked_decides None p = (λ e. cc, λ x. absurd (none-some x.0 x.2))
are_linked_decides (Some a) None = (λ e. cc, λ x. absurd (none-some x.1 x.3))
are_linked_decides (Some a) (Some b) =
    Decides-like (is_linked a b)
    (λ l. (a, b, refl, refl, l))
    (λ x. subst (λ v. Linked a v) (sym (same_Some b x.1 x.3)) (subst (λ v. Linked v x.1) (sym (same_Some a x.0 x.2)) x.4))
    (linked_decides a b)

pub edge_decides : (es : List Event) (i j : ℕ) → Decides (is_edge es i j) (Edge es i j)
unfolding is_edge
edge_decides es i j =
    Decides-like (is_edge es i j)
    (λ x. record { rises = x.0; a = x.1.0; b = x.1.1; at_i = x.1.2; at_j = x.1.3; linked = x.1.4 })
    (λ edge. (edge.rises, (edge.a, edge.b, edge.at_i, edge.at_j, edge.linked)))
    (Decides-and _ _ (Decides-ltb i j) (are_linked_decides (slice_get es i) (slice_get es j)))

-- two events of a list are linked exactly where there is an edge from the earlier place to the later one
pub edge_told : (es : List Event) (i j : ℕ) (a b : Event) → i < j → i < length es → j < length es → a ≡ slice_index_or es i a → b ≡ slice_index_or es j b
    → Decides (is_linked a b) (Edge es i j)
edge_told es i j a b rises inside_i inside_j is_a is_b =
    let at_i : slice_get es i ≡ Some a = slice_get-get_or es i a inside_i ∙ ap Some (sym is_a) in
    let at_j : slice_get es j ≡ Some b = slice_get-get_or es j b inside_j ∙ ap Some (sym is_b) in
    Decides-like (is_linked a b)
    (λ l. record { rises = rises; a = a; b = b; at_i = at_i; at_j = at_j; linked = l })
    (λ edge. subst (λ v. Linked v b) (same_Some edge.a a (sym edge.at_i ∙ at_i)) (subst (λ v. Linked edge.a v) (same_Some edge.b b (sym edge.at_j ∙ at_j)) edge.linked))
    (linked_decides a b)

any_decides : (test : ℕ → Bool) (P : ℕ → Type 0) (n : ℕ) → ((k : ℕ) → k < n → Decides (test k) (P k)) → Decides (any_below test n) ((k : ℕ) × (k < n) × P k)
any_decides test P zero each = (λ h. cc, λ x. absurd (omega (arith, x.1)))
any_decides test P (suc n) each =
    Decides-like (any_below test (suc n)) up down
    (Decides-or _ _ (each n (omega arith)) (any_decides test P n (λ k l. each k (omega arith))))
  where
    up : P n ⊎ ((k : ℕ) × (k < n) × P k) → (k : ℕ) × (k < suc n) × P k
    up (inl has) = (n, omega arith, has)
    up (inr x) = (x.0, omega (arith, x.1), x.2)

    down : (k : ℕ) × (k < suc n) × P k → P n ⊎ ((k : ℕ) × (k < n) × P k)
    down (k, l, has) = elim (cases_lt k n) [ inl lower ↦ inr (k, lower, has) | inr same ↦ inl (let e : k ≡ n = omega arith in subst P e has) ]

reaches_within_decides : (es : List Event) (edges i j : ℕ) → j ≤ edges → Decides (reaches_within es edges i j) (Reaches es i j)
reaches_within_decides es zero i j few = (λ h. cc, λ r. let up : i < j = reaches_rises es i j r in absurd (omega arith))
reaches_within_decides es (suc edges) i j few =
    Decides-like (reaches_within es (suc edges) i j) up down
    (Decides-or _ _ (edge_decides es i j)
    (any_decides _ (λ k. Edge es k j × Reaches es i k) j
    (λ k l. Decides-and _ _ (edge_decides es k j) (reaches_within_decides es edges i k (omega arith)))))
  where
    up : Edge es i j ⊎ ((k : ℕ) × (k < j) × (Edge es k j × Reaches es i k)) → Reaches es i j
    up (inl edge) = edge_reaches es i j edge
    up (inr x) = reaches_joined es i x.0 j x.2.1 (edge_reaches es x.0 j x.2.0)

    down : Reaches es i j → Edge es i j ⊎ ((k : ℕ) × (k < j) × (Edge es k j × Reaches es i k))
    down r = elim (last_edge (Edge es) i r.0 j r.1) [
      | inl edge ↦ inl edge
      | inr more ↦ inr (more.0, more.2.rises, (more.2, more.1))
    ]

-- the test tells whether a place reaches another
pub reaches_decides : (es : List Event) (i j : ℕ) → Decides (reaches es i j) (Reaches es i j)
unfolding reaches
reaches_decides es i j = reaches_within_decides es j i j (omega arith)

-- reaching is the least transitive relation that holds each edge
pub reaches_least : (es : List Event) (P : ℕ → ℕ → Type 0) → ((i j : ℕ) → Edge es i j → P i j) → ((i j k : ℕ) → P i j → P j k → P i k)
    → (i j : ℕ) → Reaches es i j → P i j
reaches_least es P edges joins i j r = leads_in (Edge es) P edges joins i r.0 j r.1
