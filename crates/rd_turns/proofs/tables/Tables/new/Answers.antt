use Rattle.std.proofs.Common.{[], replicate, sym, ap, subst, ◌∙◌, arith}
use Rattle.std.proofs.lemmas.List.{with_items_is}
use Rattle.rd_turns.specs.Standing.{AreLeftOpen, AreWithout, StandsFor}
use Rattle.rd_turns.proofs.FirstLemmas.{first_stands}
use Rattle.rd_turns.proofs.tables.Tables.new.Goals as goal

pub returns : goal.returns
returns c =
    let marks = subst (λ threads. AreLeftOpen c.args.logs.now.logs.items threads c.mark_open.new.threads) c.as_mut_slice.ensures.value
    (subst (λ logs. AreLeftOpen logs c.as_mut_slice.result.now c.mark_open.new.threads) c.as_slice-2.ensures.value c.mark_open.ensures) in
    subst (λ threads. StandsFor c.args.logs.now [] (record { given = c.in_ok-given.given.items; threads = threads; locks = c.in_ok-locks.locks.items }))
    (sym (with_items_is c.in_ok-threads.threads c.mark_open.new.threads (omega (arith, marks.count, c.in_ok-threads.threads.ok.0))))
    (first_stands c.args.logs.now c.in_ok-given.given.items c.in_ok-threads.threads.items c.mark_open.new.threads c.in_ok-locks.locks.items
    (c.in_ok-given.ensures.items_if_clones_equal (λ y same. same) ∙ ap (λ k. replicate k 0) (omega (arith, c.len.ensures, c.args.logs.now.logs.ok.0)))
    (subst (λ roots. AreWithout roots c.in_ok-threads.threads.items) c.as_slice.ensures.value c.in_ok-threads.ensures) marks
    (c.in_ok-locks.ensures.items_if_clones_equal (λ y same. same)))
