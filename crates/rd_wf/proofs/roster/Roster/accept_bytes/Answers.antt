use Rattle.std.proofs.Common.{rules, ◌≢◌, Some, refl, ap, sym, ◌∙◌}
use Rattle.rd_event.specs.Items.{is_skipped}
use Rattle.rd_rules.specs.MayFollow.{version_of}
use Rattle.rd_wf.proofs.BytesLemmas.{first_is, no_keyword, nothing_skipped, skip_taken, taken_where}
use Rattle.rd_wf.proofs.roster.Roster.accept_bytes.Goals as goal

pub returns-in_default : goal.returns-in_default
returns-in_default c = λ kinds lines stands.
    skip_taken kinds c.args.limits.now lines c.args.bytes.now c.args.self.now stands (nothing_skipped c.args.bytes.now c.in_default.ensures.value)

pub returns-in-35 : goal.returns-in-35
returns-in-35 c = λ kinds lines stands.
    let begins = first_is c.args.bytes.now 35 (ap Some (sym c.in-35.is) ∙ c.in-Some.ensures.value) in
    skip_taken kinds c.args.limits.now lines c.args.bytes.now c.args.self.now stands (ap is_skipped begins.1)

-- a line that begins as one of a sort

pub returns-in-99 : goal.returns-in-99
returns-in-99 c = λ kinds lines stands.
    taken_where _ _ kinds c.args.limits.now lines c.args.bytes.now c.args.self.now c.accept_anywhere.new.roster
    (λ _. first_is c.args.bytes.now 99 (ap Some (sym c.in-99.is) ∙ c.in-Some.ensures.value)) c.accept_anywhere.result (c.accept_anywhere.ensures kinds lines stands)

pub returns-in-97 : goal.returns-in-97
returns-in-97 c = λ kinds lines stands.
    taken_where _ _ kinds c.args.limits.now lines c.args.bytes.now c.args.self.now c.accept_anywhere-in-97.new.roster
    (λ _. first_is c.args.bytes.now 97 (ap Some (sym c.in-97.is) ∙ c.in-Some.ensures.value)) c.accept_anywhere-in-97.result (c.accept_anywhere-in-97.ensures kinds lines stands)

pub returns-in-114 : goal.returns-in-114
returns-in-114 c = λ kinds lines stands.
    taken_where _ _ kinds c.args.limits.now lines c.args.bytes.now c.args.self.now c.accept_anywhere-in-114.new.roster
    (λ _. first_is c.args.bytes.now 114 (ap Some (sym c.in-114.is) ∙ c.in-Some.ensures.value)) c.accept_anywhere-in-114.result (c.accept_anywhere-in-114.ensures kinds lines stands)

pub returns-in-106 : goal.returns-in-106
returns-in-106 c = λ kinds lines stands.
    taken_where _ _ kinds c.args.limits.now lines c.args.bytes.now c.args.self.now c.accept_anywhere-in-106.new.roster
    (λ _. first_is c.args.bytes.now 106 (ap Some (sym c.in-106.is) ∙ c.in-Some.ensures.value)) c.accept_anywhere-in-106.result (c.accept_anywhere-in-106.ensures kinds lines stands)

pub returns-in-115 : goal.returns-in-115
returns-in-115 c = λ kinds lines stands.
    taken_where _ _ kinds c.args.limits.now lines c.args.bytes.now c.args.self.now c.accept_anywhere-in-115.new.roster
    (λ _. first_is c.args.bytes.now 115 (ap Some (sym c.in-115.is) ∙ c.in-Some.ensures.value)) c.accept_anywhere-in-115.result (c.accept_anywhere-in-115.ensures kinds lines stands)

pub returns-in-117 : goal.returns-in-117
returns-in-117 c = λ kinds lines stands.
    taken_where _ _ kinds c.args.limits.now lines c.args.bytes.now c.args.self.now c.accept_anywhere-in-117.new.roster
    (λ _. first_is c.args.bytes.now 117 (ap Some (sym c.in-117.is) ∙ c.in-Some.ensures.value)) c.accept_anywhere-in-117.result (c.accept_anywhere-in-117.ensures kinds lines stands)

pub returns-in-102 : goal.returns-in-102
returns-in-102 c = λ kinds lines stands.
    taken_where _ _ kinds c.args.limits.now lines c.args.bytes.now c.args.self.now c.accept_anywhere-in-102.new.roster
    (λ _. first_is c.args.bytes.now 102 (ap Some (sym c.in-102.is) ∙ c.in-Some.ensures.value)) c.accept_anywhere-in-102.result (c.accept_anywhere-in-102.ensures kinds lines stands)

pub returns-in-111 : goal.returns-in-111
returns-in-111 c = λ kinds lines stands.
    taken_where _ _ kinds c.args.limits.now lines c.args.bytes.now c.args.self.now c.accept_anywhere-in-111.new.roster
    (λ _. first_is c.args.bytes.now 111 (ap Some (sym c.in-111.is) ∙ c.in-Some.ensures.value)) c.accept_anywhere-in-111.result (c.accept_anywhere-in-111.ensures kinds lines stands)

pub returns-in-116 : goal.returns-in-116
returns-in-116 c = λ kinds lines stands.
    taken_where _ _ kinds c.args.limits.now lines c.args.bytes.now c.args.self.now c.accept_anywhere-in-116.new.roster
    (λ _. first_is c.args.bytes.now 116 (ap Some (sym c.in-116.is) ∙ c.in-Some.ensures.value)) c.accept_anywhere-in-116.result (c.accept_anywhere-in-116.ensures kinds lines stands)

pub returns-in_default-first : goal.returns-in_default-first
returns-in_default-first c = λ kinds lines stands.
    let first = c.in-Some.first.now in
    let call : first ≢ 99 = search rules in
    let acquire : first ≢ 97 = search rules in
    let release : first ≢ 114 = search rules in
    let join : first ≢ 106 = search rules in
    let share : first ≢ 115 = search rules in
    let unshare : first ≢ 117 = search rules in
    let fork : first ≢ 102 = search rules in
    let object : first ≢ 111 = search rules in
    let thread : first ≢ 116 = search rules in
    let skipped : first ≢ 35 = search rules in
    let begins = first_is c.args.bytes.now first c.in-Some.ensures.value in (
      (λ _. no_keyword first call acquire release join share unshare fork object thread (version_of lines) c.args.bytes.now begins.0 begins.1 skipped),
      refl,
    )
