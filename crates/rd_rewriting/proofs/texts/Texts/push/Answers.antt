use Rattle.std.proofs.Common.{◌≡◌, ◌++◌, [], ◌∷◌, length, sym, ap, subst, ◌∙◌}
use Rattle.std.proofs.lemmas.List.{append_assoc}
use Rattle.std.proofs.lemmas.Result.{on_ok_weaker}
use Rattle.rd_rewriting.proofs.TextsLemmas.{longer, starts_longer, starts_more, texts_more}
use Rattle.rd_rewriting.specs.Texts.{AreStarts, texts_in}
use Rattle.rd_rewriting.proofs.texts.Texts.push.Goals as goal

pub invariant_of-self-in_err-append : goal.invariant_of-self-in_err-append
invariant_of-self-in_err-append c =
    let bytes = c.self.inside.bytes in
    let same : c.push.new.self.items ≡ c.self.inside.starts.items ++ length bytes ∷ [] =
    c.in_ok-push.ensures.items ∙ (λ i. c.self.inside.starts.items ++ length (c.items.ensures i) ∷ []) in
    subst (λ (T : Type 0). T) (λ i. AreStarts (sym same i) (length (sym c.in_err-append.ensures.err i))) (starts_more c.self.inside.starts.items (length bytes) c.self.invariant)

pub invariant_of-self-2 : goal.invariant_of-self-2
invariant_of-self-2 c =
    let bytes = c.self.inside.bytes in
    let same : c.push.new.self.items ≡ c.self.inside.starts.items ++ length bytes ∷ [] =
    c.in_ok-push.ensures.items ∙ (λ i. c.self.inside.starts.items ++ length (c.items.ensures i) ∷ []) in
    subst (λ l. AreStarts l (length c.push-2.new.self)) (sym same)
    (starts_longer (c.self.inside.starts.items ++ length bytes ∷ []) (length bytes) (length c.push-2.new.self)
    (starts_more c.self.inside.starts.items (length bytes) c.self.invariant)
    (longer bytes c.args.line.now c.append.new.self c.push-2.new.self c.push-2.result c.in_ok-append.ensures.ok c.push-2.ensures.ok c.push-2.ensures.err))

pub returns : goal.returns
returns c =
    let bytes = c.self.inside.bytes in
    let starts = c.self.inside.starts.items in
    let line = c.args.line.now in
    let same : c.push.new.self.items ≡ starts ++ length bytes ∷ [] =
    c.in_ok-push.ensures.items ∙ (λ i. starts ++ length (c.items.ensures i) ∷ []) in
    on_ok_weaker c.push-2.result
    (λ (is : c.push-2.new.self ≡ c.append.new.self ++ 10 ∷ []).
    let all : c.push-2.new.self ≡ bytes ++ (line ++ 10 ∷ []) = is ∙ (ap (λ l. l ++ 10 ∷ []) c.in_ok-append.ensures.ok ∙ append_assoc bytes line (10 ∷ [])) in
    (λ i. texts_in (all i) (same i)) ∙ (texts_more bytes (line ++ 10 ∷ []) starts c.self.invariant ∙ ap (λ l. l ++ (line ++ 10 ∷ []) ∷ []) c.self.view_is))
    c.push-2.ensures.ok
