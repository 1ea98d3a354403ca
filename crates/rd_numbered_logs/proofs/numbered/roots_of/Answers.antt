use Rattle.std.proofs.Common.{◌≡◌, ◌&&◌, ◌||◌, ◌==◌, Bool, List, false, not, length, get_or, sym, ap, ◌∙◌}
use Rattle.std.specs.List.{list_any}
use Rattle.rd_numbered_logs.specs.Numbering.{step_forks}
use Rattle.rd_numbered_logs.proofs.LogLemmas.{kept_whole, none_marked, roots_by_steps}
use Rattle.rd_numbered_logs.proofs.numbered.roots_of.Goals as goal

pub returns-clause-roots : goal.returns-clause-roots
returns-clause-roots c = λ thread.
    let n = c.in_ok-roots.roots.len in
    let at : List Bool → Bool = λ l. get_or l thread false in
    let has : Bool = list_any (λ log. log.thread == thread) c.args.logs.now in
    let forked : Bool = list_any (λ log. list_any (step_forks thread) log.steps.items) c.args.logs.now in
    let whole : length c.in_ok-roots.roots.items ≡ n = sym c.in_ok-roots.roots.ok.0 in
    let one : length c.mark_threads.new.roots ≡ n = c.mark_threads.ensures.count ∙ ap length c.deref_mut.ensures.value ∙ whole in
    let marked = kept_whole n c.mark_threads.new.roots c.in_ok-roots.roots.items one in
    let two : length c.unmark_all.new.roots ≡ n = c.unmark_all.ensures.count ∙ ap length (c.deref_mut-2.ensures.value ∙ marked) ∙ one in
    let none : at c.deref_mut.result.now ≡ false = ap at (c.deref_mut.ensures.value ∙ c.in_ok-roots.ensures.items_if_clones_equal (λ _ same. same)) ∙ none_marked c.args.count thread in
    ap at (kept_whole n c.unmark_all.new.roots _ two)
    ∙ c.unmark_all.ensures.marks thread
    ∙ ap (λ l. at l && not forked) (c.deref_mut-2.ensures.value ∙ marked)
    ∙ ap (λ b. b && not forked) (c.mark_threads.ensures.marks thread ∙ ap (λ b. b || has) none)
    ∙ sym (roots_by_steps c.args.logs.now thread)
