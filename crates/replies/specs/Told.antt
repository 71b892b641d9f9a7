-- How a reply is printed.
use Rattle.std.specs.Prelude.{ℕ, ◌+◌, ◌*◌, ◌≤◌, ◌≡◌, refl, Bool, true, false, cond, List, [], ◌∷◌, ◌++◌, leb, eqb, length, take}
use Rattle.std.proofs.Common.{arith, length-take, le-leb, leb-true}
use Rattle.calls.specs.Answers.{value_of, values_from}
use Rattle.calls.specs.View.{World}
use Rattle.calls.specs.Answers.{Answer}
use Rattle.calls.specs.declared.Fields.{Fields}
use Rattle.text.specs.Answer.{answer_line, printed, printed_end}
use Rattle.text.specs.Size.{up_to_end, answer_length}
use Rattle.replies.specs.Reply.{Reply}

-- A REPLY PRINTED AT `at`: the buffer after it, where its text ends, and the world that stands; without room for the line nothing is put
pub record Told (number : ℕ) (out : List ℕ) (at : ℕ) (out' : List ℕ) (at' : ℕ) (w : World) (a : Reply) : Type 0 where
  pub text : out' ≡ printed out at number a.number a.values
  pub end : at' ≡ printed_end out at number a.number a.values
  pub world : w ≡ a.world
  pub few : length a.values ≤ 11

-- an answer printed where there is room for the longest: the text goes on by it
pub told_text : (out : List ℕ) (at number answer : ℕ) (vs : List ℕ) {out' : List ℕ} {at' : ℕ} → at + 273 ≤ length out → length vs ≤ 11
    → out' ≡ printed out at number answer vs → at' ≡ printed_end out at number answer vs → take at' out' ≡ take at out ++ answer_line number answer vs
told_text out at number answer vs {out'} {at'} h l p e =
    let k : at + (42 + 21 * length vs) ≤ length out = omega arith in
    let z : at ≤ length out = omega arith in
    rw (p, e, le-leb (at + (42 + 21 * length vs)) (length out) k) (up_to_end out at (answer_line number answer vs) z)

told_end : (out : List ℕ) (at number answer : ℕ) (vs : List ℕ) {at' : ℕ} → at + 273 ≤ length out → length vs ≤ 11 → at' ≡ printed_end out at number answer vs
    → at' ≤ length out
told_end out at number answer vs {at'} h l e =
    let k : at + (42 + 21 * length vs) ≤ length out = omega arith in
    let z : at' ≡ at + length (answer_line number answer vs) = rw (e, le-leb (at + (42 + 21 * length vs)) (length out) k) in
    omega (arith, answer_length number answer vs)

-- where there is room for the longest answer the text goes on by this one, within the buffer
pub record GoesOn (number : ℕ) (out : List ℕ) (at : ℕ) (out' : List ℕ) (at' : ℕ) (a : Reply) : Type 0 where
  pub text : take at' out' ≡ take at out ++ answer_line number a.number a.values
  pub within : at' ≤ length out

pub told_on : {number : ℕ} {out : List ℕ} {at : ℕ} {out' : List ℕ} {at' : ℕ} {w : World} {a : Reply} → Told number out at out' at' w a → at + 273 ≤ length out
    → GoesOn number out at out' at' a
told_on {number} {out} {at} {a = a} t h =
    record {
      text = told_text out at number a.number a.values h t.few t.text t.end;
      within = told_end out at number a.number a.values h t.few t.end;
    }

-- what is put at the start of a buffer ends in it
pub printed_within : (out : List ℕ) (number answer : ℕ) (vs : List ℕ) → printed_end out 0 number answer vs ≤ length out
printed_within out number answer vs = go (leb (0 + (42 + 21 * length vs)) (length out)) refl
  where
    go : (b : Bool) → leb (0 + (42 + 21 * length vs)) (length out) ≡ b → cond b (0 + length (answer_line number answer vs)) 0 ≤ length out
    go true e =
        let l : 0 + (42 + 21 * length vs) ≤ length out = leb-true _ _ e in
        omega (arith, answer_length number answer vs)
    go false e = omega arith

-- an answer has at most eleven values
pub values_few : (a : Answer) (f : Fields) → length f.values ≡ 11 → length (values_from a f) ≤ 11
values_few a f h = go (eqb f.count 0)
  where
    go : (b : Bool) → length (cond b (value_of a ∷ []) (take f.count f.values)) ≤ 11
    go true = omega arith
    go false = omega (arith, length-take f.count f.values)
