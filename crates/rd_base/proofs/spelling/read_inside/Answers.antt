use Rattle.std.proofs.Common.{◌≡◌, ℕ, ◌-◌, ◌<◌, List, ◌++◌, length, option_map, sym, ◌∙◌, subst, rules}
use Rattle.rd_base.specs.ReadingValues.{inside_of}
use Rattle.rd_base.proofs.TextLemmas.{inside_more, inside_stops, inside_full, inside_ends}
use Rattle.rd_base.proofs.spelling.read_inside.Goals as goal

pub returns-then-len-eq-LONGEST : goal.returns-then-len-eq-LONGEST
returns-then-len-eq-LONGEST c =
    let some : 0 < length c.loop-rest.rest.now = search rules in
    inside_full _ _ _ c.loop-rest.invariant.so_far some (sym c.len.ensures.value ∙ c.if-len-eq-LONGEST.true)

pub returns-in_default : goal.returns-in_default
returns-in_default c =
    let some : 0 < length c.loop-rest.rest.now = search rules in
    inside_stops _ _ _ c.loop-rest.invariant.so_far some c.in_default.ensures.none

pub loop-rest-preserved : goal.loop-rest-preserved
loop-rest-preserved c =
    let some : 0 < length c.loop-rest.rest.now = search rules in
    let room : length c.loop-rest.text.items < 255 = search rules in
    record {
      so_far =
          subst
          (λ (text : List ℕ). inside_of 255 c.args.bytes.now
          ≡ option_map (λ more. text ++ more) (inside_of (255 - length text) c.in-Some.after.now))
          (sym c.push.ensures.items)
          (inside_more _ _ _ _ _ c.loop-rest.invariant.so_far room some c.in-Some.ensures.some);
      short = search rules;
    }

pub returns : goal.returns
returns c =
    let end : length c.loop-rest.rest.now ≡ 0 = search rules in
    inside_ends _ _ _ c.loop-rest.invariant.so_far end
