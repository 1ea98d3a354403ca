use Rattle.std.proofs.Common.{◌≡◌, option_map, refl, sym, ap, ◌∙◌}
use Rattle.rd_event.specs.declared.items.Line.TheVariants.{Event}
use Rattle.rd_event.specs.declared.items.LineEvent.TheVariants.{Unshare}
use Rattle.rd_rules.specs.MayFollow.{version_of}
use Rattle.rd_wf.proofs.BytesLemmas.{first_unshare, no_second, no_unshare, pair_taken, unshare_behind}
use Rattle.rd_wf.proofs.roster.keywords.UnshareLineKeyword.accept_bytes.Goals as goal

pub returns-then-version-ne2 : goal.returns-then-version-ne2
returns-then-version-ne2 g c = λ kinds lines stands. (
  (λ known. first_unshare (version_of lines) c.args.bytes.now known.1 (λ second. c.if-version-ne2.true (c.version.ensures kinds lines stands ∙ second))),
  refl,
)

pub returns-in_default : goal.returns-in_default
returns-in_default g c = λ kinds lines stands. ((λ known. no_unshare (version_of lines) c.args.bytes.now known.1 c.in_default.ensures.none), refl)

pub returns-in_default-cut_at_space : goal.returns-in_default-cut_at_space
returns-in_default-cut_at_space g c = λ kinds lines stands.
    let second : version_of lines ≡ 2 = sym (c.version.ensures kinds lines stands) ∙ c.if-version-ne2.false in (
      (λ known. unshare_behind (version_of lines) c.args.bytes.now c.in-Some.names.now c.in-Some.ensures.some second ∙ ap (option_map _) (no_second c.in-Some.names.now c.in_default-cut_at_space.ensures.none)),
      refl,
    )

pub returns : goal.returns
returns g c = λ kinds lines stands.
    let second : version_of lines ≡ 2 = sym (c.version.ensures kinds lines stands) ∙ c.if-version-ne2.false in
    pair_taken _ kinds c.args.limits.now lines c.args.bytes.now c.args.roster.now c.unshare.new.self stands _ (λ known. known.0) c.in-Some.names.now c.in-Some-cut_at_space.thread.now c.in-Some-cut_at_space.lock.now (λ names. Event (Unshare names.0 names.1))
    c.in-Some-cut_at_space.ensures.before c.in-Some-cut_at_space.ensures.after (unshare_behind (version_of lines) c.args.bytes.now c.in-Some.names.now c.in-Some.ensures.some second)
    c.unshare.result c.unshare.ensures
