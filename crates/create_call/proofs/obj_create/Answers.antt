use Prim.Native.Nat.{◌<◌}
use mathlib.Core.Path.{◌≡◌, refl, sym}
use native.Mathlib.Omega.{arith}
use borrow.Author.Tests.{le-leb}
use Rattle.bounded.specs.Bools.{and_left}
use Rattle.create_call.proofs.Refused.{ranged, refused, create_run}
use Rattle.calls.specs.Rules.{rule, unlocked, late, changes}
use Rattle.calls.specs.Laws.Returns.{caller_known}
use Rattle.calls.specs.Laws.Exits.{exits}
use Rattle.calls.specs.Laws.Parts.{alters_done}
use Rattle.calls.proofs.Parts.{alters_unknown}
use Rattle.create_call.proofs.obj_create.Goals as goal

pub returns-in_err-place : goal.returns-in_err-place
returns-in_err-place c f = alters_unknown _ _ _ f _ _ (sym c.in_err-place.ensures) (exits c.from_residual.ensures.1 refl)

pub returns-then-not-create_in_range : goal.returns-then-not-create_in_range
returns-then-not-create_in_range c f = ranged c.in_ok-place.ensures c.if-not-create_in_range.ensures.value

pub returns-then-not-run_ok : goal.returns-then-not-run_ok
returns-then-not-run_ok c f =
    refused c.in_ok-place.ensures c.if-not-create_in_range.ensures.value c.new_object-o.ensures (rw (← c.if-not-run_ok.ensures))

pub returns-then-not-in_set : goal.returns-then-not-in_set
returns-then-not-in_set c f =
    refused c.in_ok-place.ensures c.if-not-create_in_range.ensures.value c.new_object-o.ensures
    (rw (← c.if-not-run_ok.ensures, ← c.if-not-in_set.ensures))

pub returns-then-not-within_limit : goal.returns-then-not-within_limit
returns-then-not-within_limit c f =
    refused c.in_ok-place.ensures c.if-not-create_in_range.ensures.value c.new_object-o.ensures
    (rw (← c.if-not-run_ok.ensures, ← c.if-not-in_set.ensures, ← c.if-not-within_limit.ensures))

pub returns-then-not-has_room : goal.returns-then-not-has_room
returns-then-not-has_room c f =
    refused c.in_ok-place.ensures c.if-not-create_in_range.ensures.value c.new_object-o.ensures
    (rw (← c.if-not-run_ok.ensures, ← c.if-not-in_set.ensures, ← c.if-not-within_limit.ensures, ← c.if-not-has_room.ensures))

pub returns : goal.returns
unfolding rule unlocked late changes
returns c f =
    let e = caller_known _ _ _ (sym c.in_ok-place.ensures) in
    let lies = and_left _ _ (sym c.if-not-run_ok.ensures) in
    let four : c.in_ok-place.place < 4 = rw (e.1) e.0.known in
    alters_done _ _ _ f _ _ e.0 (λ new h. let k : new.place ≡ c.in_ok-place.place = cc in omega arith)
    (sym c.if-not-create_in_range.ensures.value) refl
    (λ m q. rw (
      ← c.new_object-o.ensures,
      ← e.1,
      ← c.if-not-run_ok.ensures,
      ← c.if-not-in_set.ensures,
      ← c.if-not-within_limit.ensures,
      ← c.if-not-has_room.ensures,
    ))
    (λ m q s. rw (
      c.insert_object.ensures,
      c.new_object-o.ensures,
      c.zero_words.ensures,
      e.0.long,
      le-leb _ _ (create_run _ _ _ _ _ _ c.new_object-o.ensures lies four),
      e.1,
    ))
