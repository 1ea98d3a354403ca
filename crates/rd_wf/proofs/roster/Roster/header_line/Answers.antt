use Rattle.std.proofs.Common.{◌≡◌, codes, true≢false, refl, sym, ap, ◌∙◌}
use Rattle.std.specs.Prelude.{⊤}
use Rattle.std.specs.Cmp.Lexicographic.{bytes_decides}
use Rattle.rd_event.specs.declared.items.Line.TheVariants.{Header}
use Rattle.rd_event.specs.Reading.{header_read}
use Rattle.rd_rules.specs.MayFollow.{version_of}
use Rattle.rd_wf.proofs.BytesLemmas.{header_behind, line_taken, no_release, no_version}
use Rattle.rd_wf.proofs.roster.Roster.header_line.Goals as goal

pub returns-in_default : goal.returns-in_default
returns-in_default c = λ kinds lines stands. ((λ begins. no_release (version_of lines) c.args.bytes.now begins c.requires c.in_default.ensures.none), refl)

pub returns-then-eq : goal.returns-then-eq
returns-then-eq c = λ kinds lines stands.
    let is : c.in-Some.version.now ≡ codes "1" = (bytes_decides c.in-Some.version.now c.as_slice.result.now).0 (sym c.eq.ensures ∙ c.if-eq.true) ∙ c.as_slice.ensures in
    line_taken _ kinds c.args.limits.now lines c.args.bytes.now c.args.self.now c.header.new.self stands _ (λ _. refl) ⊤ (Header 1)
    (λ _. header_behind (version_of lines) c.args.bytes.now c.in-Some.version.now c.in-Some.ensures.some ∙ ap header_read is) (λ none. absurd (none tt)) c.header.result c.header.ensures

pub returns-then-eq-2 : goal.returns-then-eq-2
returns-then-eq-2 c = λ kinds lines stands.
    let is : c.in-Some.version.now ≡ codes "2" = (bytes_decides c.in-Some.version.now c.as_slice-2.result.now).0 (sym c.eq-2.ensures ∙ c.if-eq-2.true) ∙ c.as_slice-2.ensures in
    line_taken _ kinds c.args.limits.now lines c.args.bytes.now c.args.self.now c.header-then-eq-2.new.self stands _ (λ _. refl) ⊤ (Header 2)
    (λ _. header_behind (version_of lines) c.args.bytes.now c.in-Some.version.now c.in-Some.ensures.some ∙ ap header_read is) (λ none. absurd (none tt)) c.header-then-eq-2.result c.header-then-eq-2.ensures

pub returns : goal.returns
returns c = λ kinds lines stands. (
  (λ begins. header_behind (version_of lines) c.args.bytes.now c.in-Some.version.now c.in-Some.ensures.some
      ∙ no_version c.in-Some.version.now
      (λ e. true≢false (sym ((bytes_decides c.in-Some.version.now c.as_slice.result.now).1 (e ∙ sym c.as_slice.ensures)) ∙ (sym c.eq.ensures ∙ c.if-eq.false)))
      (λ e. true≢false (sym ((bytes_decides c.in-Some.version.now c.as_slice-2.result.now).1 (e ∙ sym c.as_slice-2.ensures)) ∙ (sym c.eq-2.ensures ∙ c.if-eq-2.false)))),
  refl,
)
