use Rattle.std.proofs.lemmas.Grind.{common_steps}
use Rattle.std.proofs.Common.{◌≡◌, ◌+◌, ◌≤◌, [], ◌++◌, length, refl, sym, ap, subst, arith, ◌∙◌}
use Rattle.std.proofs.lemmas.List.{length-take, length-drop}
use Rattle.rd_io.specs.LineReader.{Reader, with_more}
use Rattle.rd_io.proofs.AdvanceLemmas.{Searches, searches_none, searches_more, no_line, takes_none, takes_on}
use Rattle.rd_io.proofs.lines.LineReader.advance.Goals as goal

pub search-init : goal.search-init
search-init g c =
    let bound : length c.args.self.now.pending ≤ c.args.self.now.room + 1 =
    subst (λ (r : Reader). length r.pending ≤ r.room + 1) c.self.view_is (simp (length-take, length-drop) (omega arith)) in
    let fits : length c.args.self.now.pending ≤ c.args.self.now.limit =
    subst (λ (r : Reader). length r.pending ≤ r.limit) c.self.view_is (simp (length-take, length-drop) (omega arith)) in
    ([], searches_none c.args.self.now bound fits, takes_none (g.I.Inputs.told c.args.inputs.now), refl, λ _. refl)

pub returns-in_default-clause-still : goal.returns-in_default-clause-still
returns-in_default-clause-still g c = λ has.
    let i = c.search.invariant in
    absurd (no_line c.args.self.now c.search.self i.0 i.1.reader c.in-Short.ensures.1.clean has)

pub returns-then-count-eq0-clause-still : goal.returns-then-count-eq0-clause-still
returns-then-count-eq0-clause-still g c = λ has.
    let i = c.search.invariant in
    absurd (no_line c.args.self.now c.search.self i.0 i.1.reader c.in-Short.ensures.1.clean has)

pub search-preserved : goal.search-preserved
search-preserved g c =
    let i = c.search.invariant in
    let o = c.in-Ok.ensures.ok in
    let s = c.in-Short.ensures in
    let seen : c.held-seen.result ≡ length c.search.self.pending = c.held-seen.ensures ∙ ap (λ (r : Reader). length r.pending) s.0 in
    let now = o.2 ∙ ap (λ (r : Reader). with_more r o.0) s.0 in
    let bound = rw s.0 at c.in-Ok.ensures.bound in
    let fits = rw s.0 at c.in-Ok.ensures.fits in (
      i.0 ++ o.0,
      subst (Searches c.args.self.now c.fill.new.self (i.0 ++ o.0)) (sym seen)
          (searches_more c.args.self.now c.search.self c.fill.new.self i.0 o.0 c.search.seen i.1 s.1 now (omega (arith, bound, o.1)) (omega (arith, fits, o.1))),
      takes_on _ _ _ i.0 o.0 i.2 (λ old told. let r = o.3 old told in (r.0, r.1, r.2.0)),
      c.in-Ok.ensures.cause.calm ∙ i.3,
      λ has. absurd (no_line c.args.self.now c.search.self i.0 i.1.reader s.1.clean has),
    )

pub returns-then-count-eq0-clause-finds : goal.returns-then-count-eq0-clause-finds
returns-then-count-eq0-clause-finds g c = grind (arith, common_steps)

pub search-smaller : goal.search-smaller
search-smaller g c = grind (arith, common_steps)
