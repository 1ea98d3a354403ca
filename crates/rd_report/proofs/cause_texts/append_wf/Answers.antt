use Rattle.std.proofs.Common.{◌≡◌, ℕ, List, true, ◌++◌, subst, sym, refl}
use Rattle.std.proofs.lemmas.Result.{on_ok_weaker}
use Rattle.std.specs.List.{list_all}
use Rattle.std.specs.Prelude.{OnOk, Result}
use Rattle.rd_base.specs.Limits.{limit_cause_text}
use Rattle.rd_base.specs.Spelling.{is_plain}
use Rattle.rd_wf.specs.Roster.{names_in}
use Rattle.rd_rules.specs.declared.causes.WfCause.{WfCause}
use Rattle.rd_report.specs.Texts.{wf_text}
use Rattle.rd_report.specs.Writing.{ArePlain}
use Rattle.rd_report.proofs.PlainLemmas.{written_plain}
use Rattle.rd_report.proofs.cause_texts.append_wf.Goals as goal

-- a cause is told where that one is which it is
told : {T E : Type 0} (result : Result T E) (text new : List ℕ) (names : List (List ℕ)) (cause shown : WfCause) → cause ≡ shown
    → OnOk result (new ≡ text ++ wf_text names shown) → OnOk result (new ≡ text ++ wf_text names cause)
told result text new names cause shown is here = subst (λ cause. OnOk result (new ≡ text ++ wf_text names cause)) (sym is) here

-- bytes that are written out are plain where they are put
plain : {T E : Type 0} (A : Type 0) (result : Result T E) (names : List (List ℕ)) (cause shown : WfCause) → cause ≡ shown
    → list_all is_plain (wf_text names shown) ≡ true → OnOk result A → OnOk result (ArePlain (wf_text names cause))
plain A result names cause shown is all here =
    on_ok_weaker result (λ _. subst (λ cause. ArePlain (wf_text names cause)) (sym is) (written_plain (wf_text names shown) all)) here

pub returns-in-Limit-clause-plain : goal.returns-in-Limit-clause-plain
unfolding wf_text
returns-in-Limit-clause-plain c =
    on_ok_weaker c.append_passed.result
    (λ _. subst (λ cause. ArePlain (wf_text (names_in c.args.names.now) cause)) (sym c.in-Limit.is)
    (subst (λ number. ArePlain (limit_cause_text c.in-Limit.name number)) c.from.ensures c.append_passed.ensures.plain)) c.append_passed.ensures.text

pub returns-in-HeaderFirst-clause-text : goal.returns-in-HeaderFirst-clause-text
unfolding wf_text
returns-in-HeaderFirst-clause-text c = told _ _ _ _ _ _ c.in-HeaderFirst.is c.append.ensures.ok

pub returns-in-HeaderFirst-clause-plain : goal.returns-in-HeaderFirst-clause-plain
unfolding wf_text
returns-in-HeaderFirst-clause-plain c = plain _ c.append.result _ _ _ c.in-HeaderFirst.is refl c.append.ensures.ok

pub returns-in-LateRoot-clause-text : goal.returns-in-LateRoot-clause-text
unfolding wf_text
returns-in-LateRoot-clause-text c = told _ _ _ _ _ _ c.in-LateRoot.is c.append-in-LateRoot.ensures.ok

pub returns-in-LateRoot-clause-plain : goal.returns-in-LateRoot-clause-plain
unfolding wf_text
returns-in-LateRoot-clause-plain c = plain _ c.append-in-LateRoot.result _ _ _ c.in-LateRoot.is refl c.append-in-LateRoot.ensures.ok

pub returns-in-NameTaken-clause-text : goal.returns-in-NameTaken-clause-text
unfolding wf_text
returns-in-NameTaken-clause-text c = told _ _ _ _ _ _ c.in-NameTaken.is c.append-in-NameTaken.ensures.ok

pub returns-in-NameTaken-clause-plain : goal.returns-in-NameTaken-clause-plain
unfolding wf_text
returns-in-NameTaken-clause-plain c = plain _ c.append-in-NameTaken.result _ _ _ c.in-NameTaken.is refl c.append-in-NameTaken.ensures.ok

pub returns-in-UnknownThread-clause-text : goal.returns-in-UnknownThread-clause-text
unfolding wf_text
returns-in-UnknownThread-clause-text c = told _ _ _ _ _ _ c.in-UnknownThread.is c.append-in-UnknownThread.ensures.ok

pub returns-in-UnknownThread-clause-plain : goal.returns-in-UnknownThread-clause-plain
unfolding wf_text
returns-in-UnknownThread-clause-plain c = plain _ c.append-in-UnknownThread.result _ _ _ c.in-UnknownThread.is refl c.append-in-UnknownThread.ensures.ok

pub returns-in-ThreadEnded-clause-text : goal.returns-in-ThreadEnded-clause-text
unfolding wf_text
returns-in-ThreadEnded-clause-text c = told _ _ _ _ _ _ c.in-ThreadEnded.is c.append-in-ThreadEnded.ensures.ok

pub returns-in-ThreadEnded-clause-plain : goal.returns-in-ThreadEnded-clause-plain
unfolding wf_text
returns-in-ThreadEnded-clause-plain c = plain _ c.append-in-ThreadEnded.result _ _ _ c.in-ThreadEnded.is refl c.append-in-ThreadEnded.ensures.ok

pub returns-in-OwnThread-clause-text : goal.returns-in-OwnThread-clause-text
unfolding wf_text
returns-in-OwnThread-clause-text c = told _ _ _ _ _ _ c.in-OwnThread.is c.append-in-OwnThread.ensures.ok

pub returns-in-OwnThread-clause-plain : goal.returns-in-OwnThread-clause-plain
unfolding wf_text
returns-in-OwnThread-clause-plain c = plain _ c.append-in-OwnThread.result _ _ _ c.in-OwnThread.is refl c.append-in-OwnThread.ensures.ok

pub returns-in-UnknownKind-clause-text : goal.returns-in-UnknownKind-clause-text
unfolding wf_text
returns-in-UnknownKind-clause-text c = told _ _ _ _ _ _ c.in-UnknownKind.is c.append-in-UnknownKind.ensures.ok

pub returns-in-UnknownKind-clause-plain : goal.returns-in-UnknownKind-clause-plain
unfolding wf_text
returns-in-UnknownKind-clause-plain c = plain _ c.append-in-UnknownKind.result _ _ _ c.in-UnknownKind.is refl c.append-in-UnknownKind.ensures.ok

pub returns-in-UnknownObject-clause-text : goal.returns-in-UnknownObject-clause-text
unfolding wf_text
returns-in-UnknownObject-clause-text c = told _ _ _ _ _ _ c.in-UnknownObject.is c.append-in-UnknownObject.ensures.ok

pub returns-in-UnknownObject-clause-plain : goal.returns-in-UnknownObject-clause-plain
unfolding wf_text
returns-in-UnknownObject-clause-plain c = plain _ c.append-in-UnknownObject.result _ _ _ c.in-UnknownObject.is refl c.append-in-UnknownObject.ensures.ok

pub returns-in-UnknownMethod-clause-text : goal.returns-in-UnknownMethod-clause-text
unfolding wf_text
returns-in-UnknownMethod-clause-text c = told _ _ _ _ _ _ c.in-UnknownMethod.is c.append-in-UnknownMethod.ensures.ok

pub returns-in-UnknownMethod-clause-plain : goal.returns-in-UnknownMethod-clause-plain
unfolding wf_text
returns-in-UnknownMethod-clause-plain c = plain _ c.append-in-UnknownMethod.result _ _ _ c.in-UnknownMethod.is refl c.append-in-UnknownMethod.ensures.ok

pub returns-in-WrongCount-clause-text : goal.returns-in-WrongCount-clause-text
unfolding wf_text
returns-in-WrongCount-clause-text c = told _ _ _ _ _ _ c.in-WrongCount.is c.append-in-WrongCount.ensures.ok

pub returns-in-WrongCount-clause-plain : goal.returns-in-WrongCount-clause-plain
unfolding wf_text
returns-in-WrongCount-clause-plain c = plain _ c.append-in-WrongCount.result _ _ _ c.in-WrongCount.is refl c.append-in-WrongCount.ensures.ok

pub returns-in-NotHeld-clause-text : goal.returns-in-NotHeld-clause-text
unfolding wf_text
returns-in-NotHeld-clause-text c = told _ _ _ _ _ _ c.in-NotHeld.is c.append-in-NotHeld.ensures.ok

pub returns-in-NotHeld-clause-plain : goal.returns-in-NotHeld-clause-plain
unfolding wf_text
returns-in-NotHeld-clause-plain c = plain _ c.append-in-NotHeld.result _ _ _ c.in-NotHeld.is refl c.append-in-NotHeld.ensures.ok
