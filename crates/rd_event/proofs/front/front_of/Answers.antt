use Rattle.rd_base.specs.declared.values.Value.TheVariants.{Nil, Bool as Truth}
use Rattle.std.proofs.Common.{true, false, refl}
use Rattle.rd_event.proofs.FrontLemmas.{IsFront, length_is, value_is}
use Rattle.rd_event.proofs.front.front_of.Goals as goal
use Rattle.rd_event.proofs.front.front_of.Goals.{Then-is_word, Then-is_word-2, Then-is_word-3}

nil_found : (c : Then-is_word) → IsFront Nil c.args.bytes.now 3
nil_found c =
    let told = c.if-is_word.ensures in record {
      range = tt;
      front = told.front refl;
      within = told.within refl;
      ended = told.ended refl;
    }

true_found : (c : Then-is_word-2) → IsFront (Truth true) c.args.bytes.now 4
true_found c =
    let told = c.if-is_word-2.ensures in record {
      range = tt;
      front = told.front refl;
      within = told.within refl;
      ended = told.ended refl;
    }

false_found : (c : Then-is_word-3) → IsFront (Truth false) c.args.bytes.now 5
false_found c =
    let told = c.if-is_word-3.ensures in record {
      range = tt;
      front = told.front refl;
      within = told.within refl;
      ended = told.ended refl;
    }

pub returns-in-110-clause-length : goal.returns-in-110-clause-length
returns-in-110-clause-length c = length_is (nil_found c)

pub returns-in-110-clause-value : goal.returns-in-110-clause-value
returns-in-110-clause-value c = value_is (nil_found c)

pub returns-in-116-clause-length : goal.returns-in-116-clause-length
returns-in-116-clause-length c = length_is (true_found c)

pub returns-in-116-clause-value : goal.returns-in-116-clause-value
returns-in-116-clause-value c = value_is (true_found c)

pub returns-in-102-clause-length : goal.returns-in-102-clause-length
returns-in-102-clause-length c = length_is (false_found c)

pub returns-in-102-clause-value : goal.returns-in-102-clause-value
returns-in-102-clause-value c = value_is (false_found c)
