use Rattle.std.proofs.Common.{◌≡◌, ◌≤◌, ◌+◌, suc, Some, get_or, sym, ap, subst, ◌∙◌, arith}
use Rattle.std.specs.Prelude.{slice_range}
use Rattle.rd_rewriting.proofs.TextsLemmas.{last_inside, last_text, next_inside, next_text}
use Rattle.rd_rewriting.proofs.texts.bounds.Goals as goal

pub returns-then-index-starts-clause-text : goal.returns-then-index-starts-clause-text
returns-then-index-starts-clause-text c = λ bytes many.
    let next : c.args.index + 1 ≡ suc c.args.index = omega arith in
    next_text bytes c.args.starts.now c.args.index (omega (arith, c.if-index-starts.true))
    ∙ ap (λ n. Some (slice_range bytes (get_or c.args.starts.now c.args.index 0) (get_or c.args.starts.now n 0))) (sym next)

pub returns-then-index-starts-clause-rises : goal.returns-then-index-starts-clause-rises
returns-then-index-starts-clause-rises c =
    let next : c.args.index + 1 ≡ suc c.args.index = omega arith in
    subst (λ n. get_or c.args.starts.now c.args.index 0 ≤ get_or c.args.starts.now n 0) (sym next)
    (next_inside c.args.starts.now c.args.count c.args.index c.requires.starts (omega (arith, c.if-index-starts.true))).0

pub returns-then-index-starts-clause-within : goal.returns-then-index-starts-clause-within
returns-then-index-starts-clause-within c =
    let next : c.args.index + 1 ≡ suc c.args.index = omega arith in
    subst (λ n. get_or c.args.starts.now n 0 ≤ c.args.count) (sym next)
    (next_inside c.args.starts.now c.args.count c.args.index c.requires.starts (omega (arith, c.if-index-starts.true))).1

pub returns-clause-text : goal.returns-clause-text
returns-clause-text c = λ bytes many.
    last_text bytes c.args.starts.now c.args.index (omega (arith, c.if-index-starts.false, c.requires.inside))
    ∙ ap (λ n. Some (slice_range bytes (get_or c.args.starts.now c.args.index 0) n)) many

pub returns-clause-rises : goal.returns-clause-rises
returns-clause-rises c = last_inside c.args.starts.now c.args.count c.args.index c.requires.starts (omega (arith, c.if-index-starts.false, c.requires.inside))
