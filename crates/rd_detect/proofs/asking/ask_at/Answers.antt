use Rattle.std.proofs.Common.{inl, inr, ◌++◌, ◌∷◌, [], length, sym, subst, ◌∙◌, arith}
use Rattle.std.specs.Prelude.{option_map}
use Rattle.std.proofs.lemmas.Result.{IfOk-weaker}
use Rattle.rd_store.specs.Stores.{IsLatestUncovered, cells_at}
use Rattle.rd_store.proofs.IndexLemmas.{point_within}
use Rattle.rd_detect.specs.Covers.{CoversKept, cover_at, epoch_of}
use Rattle.rd_detect.specs.Detect.{IsLatestOf}
use Rattle.rd_detect.proofs.AskingLemmas.{latest_more}
use Rattle.rd_detect.proofs.CoverLemmas.{heard_is, kept_at, kept_refl, latest_covered, mapped_none}
use Rattle.rd_detect.proofs.asking.ask_at.Goals.{then-is_none+in_ok-set, else-is_none}
use Rattle.rd_detect.proofs.asking.ask_at.Goals as goal

pub returns-then-are_heard-clause-latest : goal.returns-then-are_heard-clause-latest
returns-then-are_heard-clause-latest g c = λ points point at before.
    let heard = heard_is c.args.stamp.clock.now (cover_at c.args.covers.now c.args.index) (sym c.are_heard.ensures ∙ c.if-are_heard.true) in
    latest_covered c.args.store.now points point c.args.stamp.clock.now _ (c.requires.told.each c.args.index heard.0 point heard.1 at heard.2) before

pub latest_at-other-requires : goal.latest_at-other-requires
latest_at-other-requires g c = point_within c.args.store.now c.args.index c.requires.index.0 c.requires.index.1

pub returns-in_err-set-clause-covers : goal.returns-in_err-set-clause-covers
returns-in_err-set-clause-covers g c =
    kept_at c.args.store.now c.args.stamp.clock.now (epoch_of c.args.stamp) c.args.covers.now c.set.new.self c.args.index
    (c.set.ensures.few (length c.args.store.now) c.requires.told.few (omega (arith, point_within c.args.store.now c.args.index c.requires.index.0 c.requires.index.1)))
    c.set.ensures.others (inl c.in_err-set.ensures.same)

pub returns-in_err-set-clause-cost : goal.returns-in_err-set-clause-cost
returns-in_err-set-clause-cost g c = λ threads below.
    let point = c.requires.index.0 in
    let few = c.law_of_stores.ensures.few (cells_at c.args.store.now point) threads (c.latest_at-other.ensures.one_each point c.requires.index.1) (λ thread seen cell. below point thread seen cell) in
    omega (arith, c.latest_at-other.ensures.cost point c.requires.index.1, few)

pub returns-clause-latest : goal.returns-clause-latest
returns-clause-latest g c = IfOk-weaker c.later.result _ _
    (λ latest is points point at before.
    subst (IsLatestOf c.args.store.now (points ++ point ∷ []) c.args.stamp.clock.now) (sym is)
    (latest_more c.args.store.now points point c.args.stamp.clock.now (option_map (λ held. held.value) c.args.found) (option_map (λ held. held.now.value) c.latest_at-other.result) before
    (c.latest_at-other.ensures.latest point at)))
    c.later.ensures

pub returns-clause-covers : goal.returns-clause-covers
returns-clause-covers g c = elim c.if-is_none.branch [
  | then-is_none+in_ok-set w ↦
      subst (CoversKept c.args.store.now c.args.stamp.clock.now (epoch_of c.args.stamp) c.args.covers.now) (sym w.covers-is)
      (kept_at c.args.store.now c.args.stamp.clock.now (epoch_of c.args.stamp) c.args.covers.now w.set.new.self c.args.index
      (w.set.ensures.few (length c.args.store.now) c.requires.told.few (omega (arith, point_within c.args.store.now c.args.index c.requires.index.0 c.requires.index.1)))
      w.set.ensures.others
      (inr (inr (
        w.in_ok-set.ensures.set,
        λ point at.
            subst (IsLatestUncovered c.args.store.now point c.args.stamp.clock.now) (mapped_none _ c.latest_at-other.result c.is_none.result c.is_none.ensures w.if-is_none.true)
            (c.latest_at-other.ensures.latest point at),
      ))))
  | else-is_none w ↦
      subst (CoversKept c.args.store.now c.args.stamp.clock.now (epoch_of c.args.stamp) c.args.covers.now) (sym w.covers-is)
      (kept_refl c.args.store.now c.args.stamp.clock.now (epoch_of c.args.stamp) c.args.covers.now c.requires.told.few)
]

pub returns-clause-cost : goal.returns-clause-cost
returns-clause-cost g c = λ threads below.
    let point = c.requires.index.0 in
    let few = c.law_of_stores.ensures.few (cells_at c.args.store.now point) threads (c.latest_at-other.ensures.one_each point c.requires.index.1) (λ thread seen cell. below point thread seen cell) in
    omega (arith, c.latest_at-other.ensures.cost point c.requires.index.1, few)
