-- The first line feed of a list of bytes.
use Rattle.std.proofs.Common.{◌≡◌, ◌≢◌, ℕ, ◌+◌, ◌-◌, ◌<◌, ◌≤◌, List, Option, Some, None, take, drop, length, sym, ap, ◌∙◌, arith, inl, inr}
use Rattle.std.specs.Prelude.{slice_index}
use Rattle.std.specs.Option.{option_map}
use Rattle.std.proofs.lemmas.List.{length-take, length-drop, get_or-take, get_or-drop, get_or_past}
use Rattle.std.proofs.lemmas.Bool.{cases_lt}
use Rattle.std.proofs.lemmas.Bool.Decides.{Decides-eqb}
use Rattle.memchr.specs.Find.{IsFirstByte, is_byte}
use Rattle.rd_io.specs.LineReader.{HasNoFeed, FindsFeed}

-- a place without a line feed before `from` and none from there on up to `end`
none_up_to : (bytes : List ℕ) (from n : ℕ) → HasNoFeed (take from bytes)
    → ((j : ℕ) → j < n → slice_index (drop from bytes) j ≢ 10) → (k : ℕ) → k < from + n → slice_index bytes k ≢ 10
none_up_to bytes from n before behind k l e =
    elim (cases_lt k from) [
      | inl low ↦ elim (cases_lt k (length bytes)) [
        | inl in_bytes ↦ before k (simp length-take (omega arith)) (get_or-take from bytes k 0 low ∙ e)
        | inr past ↦ let none = get_or_past bytes k 0 past in omega (arith, e, none)
      ]
      | inr high ↦
          let split : from + (k - from) ≡ k = omega arith in
          behind (k - from) (omega arith) (get_or-drop from bytes (k - from) 0 ∙ ap (slice_index bytes) split ∙ e)
    ]

pub feed_behind : (bytes : List ℕ) (from : ℕ) (found : Option ℕ) → from ≤ length bytes → HasNoFeed (take from bytes)
    → IsFirstByte (is_byte 10) (drop from bytes) found → FindsFeed bytes (option_map (λ at. from + at) found)
feed_behind bytes from None within before h =
    λ k l. none_up_to bytes from (length bytes - from) before
    (λ j m e. h j (omega arith) (simp length-drop (omega arith)) ((Decides-eqb _ 10).1 e)) k (omega arith)
feed_behind bytes from (Some at) within before h =
    let inside : at < length bytes - from = simp length-drop at h.0.high in
    record {
      within = omega arith;
      feed = sym (get_or-drop from bytes at 0) ∙ (Decides-eqb _ 10).0 h.1;
      before = λ k l e. none_up_to bytes from at before
          (λ j m f. h.0.before j (omega arith) m ((Decides-eqb _ 10).1 f)) k
          (omega (arith, simp length-take at l)) (sym (get_or-take (from + at) bytes k 0 (omega (arith, simp length-take at l))) ∙ e);
    }
