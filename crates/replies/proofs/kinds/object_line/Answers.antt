use Prim.Native.Nat.{ℕ}
use mathlib.Core.Path.{◌≡◌, refl, ap, sym, ◌∙◌}
use mathlib.Core.List.{[], ◌∷◌}
use borrow.Author.Rules.{rules}
use Rattle.std.specs.Prelude.{Result, Ok, Err}
use Rattle.std.specs.Result.{MatchResult, IsOkAnd}
use Rattle.calls.specs.Answers.{number_of, value_of}
use Rattle.calls.specs.declared.Altered.{Altered}
use Rattle.calls.specs.declared.Refusal.{Refusal}
use Rattle.text.specs.Answer.{printed, printed_end}
use Rattle.replies.specs.Kinds.{object_answer}
use Rattle.replies.proofs.kinds.object_line.Goals as goal

-- done or refused, a call on objects gives no value
no_value : (r : Result Altered Refusal) → value_of (object_answer r) ≡ 0
no_value (Ok new) = refl
no_value (Err why) = refl

-- a call's result by what a map puts in the place of the estate
abbrev mapped : {B : Type 0} → (Altered → B) → Result Altered Refusal → Result B Refusal
mapped f (Ok new) = Ok (f new)
mapped f (Err why) = Err why

answered : {B : Type 0} {P : Altered → B → Type 0} (f : Altered → B) → ((x : Altered) (y : B) → P x y → y ≡ f x) → (r : Result Altered Refusal)
    (a : Result B Refusal) → MatchResult r (λ x. IsOkAnd a (P x)) (λ e. a ≡ Err e) → a ≡ mapped f r
answered f by (Ok new) (Ok v) h = ap Ok (by new v h)
answered f by (Ok new) (Err e) h = absurd h
answered f by (Err why) a h = h

-- zero for an estate is the answer, and the estate itself the result as it was (by this the edit estate-not-stored is fitted)
zeros : (r : Result Altered Refusal) → mapped (λ new. 0) r ≡ object_answer r
zeros (Ok new) = refl
zeros (Err why) = refl

same : (r : Result Altered Refusal) → mapped (λ new. new) r ≡ r
same (Ok new) = refl
same (Err why) = refl

pub returns : goal.returns
returns c =
    let r = c.object_call-altered.result in
    let answer : c.map.result ≡ object_answer r = answered (λ new. 0) (λ x y p. search rules) r c.map.result c.map.ensures.cases ∙ zeros r in
    let told = rw (c.answer_number-answer.ensures ∙ ap number_of answer) at c.put_line-at.ensures in
    record {
      alters = c.object_call-altered.ensures;
      text = told.0 ∙ ap (λ v. printed c.args.out.now c.args.at c.args.number (number_of (object_answer r)) (v ∷ [])) (sym (no_value r));
      end = told.1 ∙ ap (λ v. printed_end c.args.out.now c.args.at c.args.number (number_of (object_answer r)) (v ∷ [])) (sym (no_value r));
    }
