use Rattle.std.proofs.Common.{inl, inr, [], ◌∷◌, ◌++◌, ap, subst, sym, arith}
use Rattle.std.proofs.lemmas.Option.{none-some}
use Rattle.std.proofs.lemmas.Result.{on_ok_weaker}
use Rattle.rd_event.specs.declared.events.Event.TheVariants as event
use Rattle.rd_order.specs.Order.{forked_thread}
use Rattle.rd_epoch.specs.Lessons.{AreLessons}
use Rattle.rd_epoch.proofs.LessonLemmas.{lessons_after, lessons_begun, lessons_kept, no_fork_of, no_lesson_of_call, no_other, no_release, no_unshare}
use Rattle.rd_epoch.proofs.lessons.Lessons.learn.Goals as goal

pub returns-in-Fork-clause-learnt : goal.returns-in-Fork-clause-learnt
returns-in-Fork-clause-learnt c = on_ok_weaker c.begin.result (λ begun lines es lengths below are.
    let next = c.requires.next c.in-Fork.child (ap forked_thread c.in-Fork.is) in
    subst (λ new. AreLessons new (lines ++ c.args.line ∷ []) (es ++ c.args.event.now ∷ [])) (sym begun)
    (subst (λ e. AreLessons (c.args.self.now ++ c.args.line ∷ []) (lines ++ c.args.line ∷ []) (es ++ e ∷ [])) (sym c.in-Fork.is)
    (lessons_begun lines es c.args.line (event.Fork c.in-Fork.thread c.in-Fork.child) lengths below c.args.self.now are
    (λ t inside. no_fork_of c.in-Fork.thread c.in-Fork.child t (λ same. omega (arith, same, next, inside))))))
    c.begin.ensures

pub returns-in-Join-clause-learnt : goal.returns-in-Join-clause-learnt
returns-in-Join-clause-learnt c = λ lines es lengths below are.
    subst (λ e. AreLessons c.renew.new.self (lines ++ c.args.line ∷ []) (es ++ e ∷ [])) (sym c.in-Join.is)
    (lessons_after lines es c.args.line (event.Join c.in-Join.thread c.in-Join.child) lengths below c.args.self.now are c.renew.new.self
    (λ t l at. elim (c.renew.ensures.lines t l at) [ inl now ↦ inl now | inr kept ↦ inr (kept.0, no_other (event.Join c.in-Join.thread c.in-Join.child) t (none-some t) kept.1) ]))

pub returns-in-Acquire-clause-learnt : goal.returns-in-Acquire-clause-learnt
returns-in-Acquire-clause-learnt c = λ lines es lengths below are.
    subst (λ e. AreLessons c.renew-in-Acquire.new.self (lines ++ c.args.line ∷ []) (es ++ e ∷ [])) (sym c.in-Acquire.is)
    (lessons_after lines es c.args.line (event.Acquire c.in-Acquire.thread c.in-Acquire.lock) lengths below c.args.self.now are c.renew-in-Acquire.new.self
    (λ t l at. elim (c.renew-in-Acquire.ensures.lines t l at) [ inl now ↦ inl now | inr kept ↦ inr (kept.0, no_other (event.Acquire c.in-Acquire.thread c.in-Acquire.lock) t (none-some t) kept.1) ]))

pub returns-in-Share-clause-learnt : goal.returns-in-Share-clause-learnt
returns-in-Share-clause-learnt c = λ lines es lengths below are.
    subst (λ e. AreLessons c.renew-in-Share.new.self (lines ++ c.args.line ∷ []) (es ++ e ∷ [])) (sym c.in-Share.is)
    (lessons_after lines es c.args.line (event.Share c.in-Share.thread c.in-Share.lock) lengths below c.args.self.now are c.renew-in-Share.new.self
    (λ t l at. elim (c.renew-in-Share.ensures.lines t l at) [ inl now ↦ inl now | inr kept ↦ inr (kept.0, no_other (event.Share c.in-Share.thread c.in-Share.lock) t (none-some t) kept.1) ]))

pub returns-in-Release-clause-learnt : goal.returns-in-Release-clause-learnt
returns-in-Release-clause-learnt c = λ lines es lengths below are.
    subst (λ e. AreLessons c.args.self.now (lines ++ c.args.line ∷ []) (es ++ e ∷ [])) (sym c.in-Release.is)
    (lessons_kept lines es c.args.line (event.Release c.in-Release.thread c.in-Release.lock) lengths below c.args.self.now are (λ t inside. no_release c.in-Release.thread c.in-Release.lock t))

pub returns-in-Unshare-clause-learnt : goal.returns-in-Unshare-clause-learnt
returns-in-Unshare-clause-learnt c = λ lines es lengths below are.
    subst (λ e. AreLessons c.args.self.now (lines ++ c.args.line ∷ []) (es ++ e ∷ [])) (sym c.in-Unshare.is)
    (lessons_kept lines es c.args.line (event.Unshare c.in-Unshare.thread c.in-Unshare.lock) lengths below c.args.self.now are (λ t inside. no_unshare c.in-Unshare.thread c.in-Unshare.lock t))

pub returns-in-Call-clause-learnt : goal.returns-in-Call-clause-learnt
returns-in-Call-clause-learnt c = λ lines es lengths below are.
    subst (λ e. AreLessons c.args.self.now (lines ++ c.args.line ∷ []) (es ++ e ∷ [])) (sym c.in-Call.is)
    (lessons_kept lines es c.args.line (event.Call c.in-Call.field-0) lengths below c.args.self.now are (λ t inside. no_lesson_of_call c.in-Call.field-0 t))
