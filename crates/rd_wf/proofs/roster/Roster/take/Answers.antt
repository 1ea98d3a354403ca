use Rattle.std.proofs.Common.{rules, ◌≡◌, true, refl, sym, ap, subst, ◌∙◌}
use Rattle.std.specs.Prelude.{⊤}
use Rattle.rd_base.specs.Names.{IsName}
use Rattle.rd_event.specs.declared.items.Line.TheVariants.{Event, Object, Thread}
use Rattle.rd_event.specs.declared.items.LineEvent.TheVariants.{Acquire, Fork, Join, Release, Share, Unshare}
use Rattle.rd_rules.specs.MayFollow.{accepted_of, first_broken}
use Rattle.rd_wf.specs.Roster.{TakesNames}
use Rattle.rd_wf.proofs.BytesLemmas.{taken_named}
use Rattle.rd_wf.proofs.NextLemmas.{after_skip}
use Rattle.rd_wf.proofs.roster.Roster.take.Goals as goal

pub returns-in-Skip : goal.returns-in-Skip
unfolding accepted_of first_broken
returns-in-Skip c =
    (tt, λ kinds lines stands. rw c.in-Skip.is (refl, refl, after_skip kinds c.args.self.now c.args.self.now lines stands refl refl refl refl refl refl refl))

pub returns-in-Thread : goal.returns-in-Thread
returns-in-Thread c =
    subst (λ line. TakesNames true ⊤ c.args.self.now c.root.new.self c.args.limits.now line c.root.result) (ap Thread c.items.ensures.value ∙ sym c.in-Thread.is)
    (taken_named (IsName c.items.result.now) (subst IsName (sym c.items.ensures.value) c.items.ensures.name) c.args.self.now c.root.new.self c.args.limits.now _ c.root.result c.root.ensures)

pub returns-in-Object : goal.returns-in-Object
returns-in-Object c =
    subst (λ line. TakesNames true ⊤ c.args.self.now c.object.new.self c.args.limits.now line c.object.result)
    ((λ i. Object (c.items-in-Object.ensures.value i) (c.items-in-Object-2.ensures.value i)) ∙ sym c.in-Object.is)
    (taken_named (IsName c.items-in-Object.result.now × IsName c.items-in-Object-2.result.now)
    (subst IsName (sym c.items-in-Object.ensures.value) c.items-in-Object.ensures.name, subst IsName (sym c.items-in-Object-2.ensures.value) c.items-in-Object-2.ensures.name)
    c.args.self.now c.object.new.self c.args.limits.now _ c.object.result c.object.ensures)

pub returns-in-Event-Fork : goal.returns-in-Event-Fork
returns-in-Event-Fork c =
    let one = c.items-in-Event-Fork in
    let two = c.items-in-Event-Fork-2 in
    let at : Event (Fork c.in-Event-Fork.thread c.in-Event-Fork.child) ≡ c.args.line.now = search rules in
    subst (λ line. TakesNames true ⊤ c.args.self.now c.fork.new.self c.args.limits.now line c.fork.result)
    ((λ i. Event (Fork (one.ensures.value i) (two.ensures.value i))) ∙ at)
    (taken_named (IsName one.result.now × IsName two.result.now) (subst IsName (sym one.ensures.value) one.ensures.name, subst IsName (sym two.ensures.value) two.ensures.name)
    c.args.self.now c.fork.new.self c.args.limits.now _ c.fork.result c.fork.ensures)

pub returns-in-Event-Join : goal.returns-in-Event-Join
returns-in-Event-Join c =
    let one = c.items-in-Event-Join in
    let two = c.items-in-Event-Join-2 in
    let at : Event (Join c.in-Event-Join.thread c.in-Event-Join.child) ≡ c.args.line.now = search rules in
    subst (λ line. TakesNames true ⊤ c.args.self.now c.join.new.self c.args.limits.now line c.join.result)
    ((λ i. Event (Join (one.ensures.value i) (two.ensures.value i))) ∙ at)
    (taken_named (IsName one.result.now × IsName two.result.now) (subst IsName (sym one.ensures.value) one.ensures.name, subst IsName (sym two.ensures.value) two.ensures.name)
    c.args.self.now c.join.new.self c.args.limits.now _ c.join.result c.join.ensures)

pub returns-in-Event-Acquire : goal.returns-in-Event-Acquire
returns-in-Event-Acquire c =
    let one = c.items-in-Event-Acquire in
    let two = c.items-in-Event-Acquire-2 in
    let at : Event (Acquire c.in-Event-Acquire.thread c.in-Event-Acquire.lock) ≡ c.args.line.now = search rules in
    subst (λ line. TakesNames true ⊤ c.args.self.now c.acquire.new.self c.args.limits.now line c.acquire.result)
    ((λ i. Event (Acquire (one.ensures.value i) (two.ensures.value i))) ∙ at)
    (taken_named (IsName one.result.now × IsName two.result.now) (subst IsName (sym one.ensures.value) one.ensures.name, subst IsName (sym two.ensures.value) two.ensures.name)
    c.args.self.now c.acquire.new.self c.args.limits.now _ c.acquire.result c.acquire.ensures)

pub returns-in-Event-Release : goal.returns-in-Event-Release
returns-in-Event-Release c =
    let one = c.items-in-Event-Release in
    let two = c.items-in-Event-Release-2 in
    let at : Event (Release c.in-Event-Release.thread c.in-Event-Release.lock) ≡ c.args.line.now = search rules in
    subst (λ line. TakesNames true ⊤ c.args.self.now c.release.new.self c.args.limits.now line c.release.result)
    ((λ i. Event (Release (one.ensures.value i) (two.ensures.value i))) ∙ at)
    (taken_named (IsName one.result.now × IsName two.result.now) (subst IsName (sym one.ensures.value) one.ensures.name, subst IsName (sym two.ensures.value) two.ensures.name)
    c.args.self.now c.release.new.self c.args.limits.now _ c.release.result c.release.ensures)

pub returns-in-Event-Share : goal.returns-in-Event-Share
returns-in-Event-Share c =
    let one = c.items-in-Event-Share in
    let two = c.items-in-Event-Share-2 in
    let at : Event (Share c.in-Event-Share.thread c.in-Event-Share.lock) ≡ c.args.line.now = search rules in
    subst (λ line. TakesNames true ⊤ c.args.self.now c.share.new.self c.args.limits.now line c.share.result)
    ((λ i. Event (Share (one.ensures.value i) (two.ensures.value i))) ∙ at)
    (taken_named (IsName one.result.now × IsName two.result.now) (subst IsName (sym one.ensures.value) one.ensures.name, subst IsName (sym two.ensures.value) two.ensures.name)
    c.args.self.now c.share.new.self c.args.limits.now _ c.share.result c.share.ensures)

pub returns-in-Event-Unshare : goal.returns-in-Event-Unshare
returns-in-Event-Unshare c =
    let one = c.items-in-Event-Unshare in
    let two = c.items-in-Event-Unshare-2 in
    let at : Event (Unshare c.in-Event-Unshare.thread c.in-Event-Unshare.lock) ≡ c.args.line.now = search rules in
    subst (λ line. TakesNames true ⊤ c.args.self.now c.unshare.new.self c.args.limits.now line c.unshare.result)
    ((λ i. Event (Unshare (one.ensures.value i) (two.ensures.value i))) ∙ at)
    (taken_named (IsName one.result.now × IsName two.result.now) (subst IsName (sym one.ensures.value) one.ensures.name, subst IsName (sym two.ensures.value) two.ensures.name)
    c.args.self.now c.unshare.new.self c.args.limits.now _ c.unshare.result c.unshare.ensures)
