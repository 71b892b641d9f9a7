-- What a call can come to: it is refused, or passes each check and is done. That each call does, and that a refused one changes nothing, is in
-- proofs/Passed.antt.
use Rattle.std.specs.Prelude.{ℕ, ◌<◌, ◌≡◌, true, length, Err}
use Rattle.state.specs.Places.{domain_at}
use Rattle.judge.specs.Judged.{judged}
use Rattle.calls.specs.Answers.{refusal_number, number_of, value_of, no_fields}
use Rattle.calls.specs.View.{World}
use Rattle.calls.specs.Rules.{in_range, unlocked, view, late}
use Rattle.calls.specs.Step.{Result, refused, done}
use Rattle.calls.specs.Laws.Order.{AllHold}
use Rattle.calls.specs.declared.Call.{Call}
use Rattle.calls.specs.declared.Refusal.{Refusal}

-- the result of a call that is refused by `why`: its number, the value 0, no fields, and the state and the words that came in
pub record Unchanged (w : World) (why : Refusal) (r : Result) : Type 0 where
  pub number : number_of r.outcome.answer ≡ refusal_number why
  pub value : value_of r.outcome.answer ≡ 0
  pub fields : r.outcome.fields ≡ no_fields
  pub state : r.outcome.state ≡ w.state
  pub words : r.words ≡ w.words

-- the result is such a one wherever it is a refusal
abbrev pub KeptIfRefused : World → Result → Type 0
KeptIfRefused w r = (why : Refusal) → r.outcome.answer ≡ Err why → Unchanged w why r

-- every check from 4 on holds, and check 2
pub record Passes (w : World) (d : ℕ) (c : Call) : Type 0 where
  pub long : length w.words ≡ 8192
  pub domain : d < 4
  pub range : in_range c ≡ true
  pub unlocks : unlocked c (domain_at w.state d).active ≡ true
  pub rest : AllHold (late d c (view judged w d c))

-- what a call comes to
abbrev pub Refuses : World → Result → Type 0
Refuses w r = (why : Refusal) × (r ≡ refused w why)

abbrev pub Does : World → ℕ → Call → Result → Type 0
Does w d c r = Passes w d c × (r ≡ done w d c (view judged w d c))
