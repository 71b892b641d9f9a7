use Prim.Native.Nat.{◌+◌, ◌≤◌}
use mathlib.Core.Path.{◌≡◌, refl, sym, ◌∙◌, ap}
use mathlib.Core.List.{List, foldl}
use native.Mathlib.Omega.{arith}
use borrow.Author.Rules.{rules}
use Rattle.std.specs.Prelude.{ℕ, Option, Ok, Err}
use lib.ListN.{length, take}
use Rattle.state.specs.declared.State.{State}
use Rattle.calls.specs.Step.{world, unchecked}
use Rattle.lines.specs.Reading.{reads}
use Rattle.lines.specs.declared.Line.{Line}
use Rattle.replies.specs.Reply.{reply}
use Rattle.replies.specs.Told.{Told}
use Rattle.replies.specs.Kinds.{tells, known_told, object_told, domain_told}
use Rattle.stream.specs.Run.{Progress}
use Rattle.stream.specs.Feed.{progress_at, progress_of, held_bytes, held_byte, on_held}
use Rattle.stream.specs.Feeding.{fed_part}
use Rattle.stream.specs.Answered.{Stands, stands_told}
use Rattle.stream.specs.Room.{still_room, clip_progress, stopped_at}
use Rattle.stream.proofs.feed_piece.Goals as goal
use Rattle.stream.proofs.feed_piece.Goals.{After-kind_of-kind}

abbrev start_at : After-kind_of-kind → Progress
start_at c =
    progress_at c.args.f.state c.args.store.now c.args.f.number c.first-held.result.bytes c.first-held.result.count c.args.out.now c.min-at.result

abbrev state_at : After-kind_of-kind → State
state_at c = record { table = c.loop-from.table; domains = c.loop-from.domains; accounts = c.loop-from.accounts }

-- the line that was read is answered, whatever its kind
answered : (c : After-kind_of-kind) (l : Option Line) (s' : State) (words' out' : List ℕ) (at' : ℕ) → c.read-reading.result ≡ l
    → Told c.loop-from.number c.loop-from.out c.loop-from.at out' at' (world s' words')
    (reply unchecked (world (state_at c) c.loop-from.store) (reads l c.read-reading.new.plan))
    → length words' ≡ length c.loop-from.store → length out' ≡ length c.loop-from.out
    → Stands (start_at c) c.args.piece.now (length c.args.store.now) (length c.args.out.now) s' words' c.next_number-number.result
    c.clear.new.self.bytes c.clear.new.self.count out' at' (c.find-end.result + 1)
answered c l s' words' out' at' q t w o =
    let room : c.loop-from.at + 273 ≤ length c.loop-from.out =
    still_room c.loop-from.from (length c.args.piece.now) _ c.loop-from.at c.has_room.result c.loop-from-test.true c.has_room.ensures in
    let long : length c.clear.new.self.bytes ≡ length c.loop-from.held.bytes = c.clear.new.self.whole ∙ sym c.loop-from.held.whole in
    rw c.clear.ensures
    (stands_told c.read-reading.result c.read-reading.new.plan c.loop-from.invariant c.find-end.ensures.0 c.if-end-piece.false c.read-reading.ensures
    c.next_number-number.ensures long q room t w o)

pub loop-from-preserved-then-end-piece : goal.loop-from-preserved-then-end-piece
loop-from-preserved-then-end-piece c = record {
  fed = fed_part unchecked held_byte c.loop-from.invariant.fed c.find-end.ensures.0 c.hold.ensures;
  few = c.hold.new.self.fits;
  hold = c.hold.new.self.whole;
  buffer = c.loop-from.invariant.buffer;
  store = c.loop-from.invariant.store;
  within = c.loop-from.invariant.within;
}

pub loop-from-preserved-in-Known : goal.loop-from-preserved-in-Known
loop-from-preserved-in-Known c =
    let at : After-kind_of-kind = (goal.at.loop-from-preserved-in-Known c).After-kind_of-kind in
    let q = tells _ _ c.in-Known.ensures in
    answered at _ (state_at at) c.loop-from.store c.put_line-at.new.out c.put_line-at.result refl
    (known_told (world (state_at at) c.loop-from.store) c.read-reading.result _ _ c.loop-from.out c.loop-from.at c.loop-from.number q c.put_line-at.ensures.0
    c.put_line-at.ensures.1) refl c.put_line-at.auto.out

pub loop-from-preserved-in-Access : goal.loop-from-preserved-in-Access
loop-from-preserved-in-Access c =
    let at : After-kind_of-kind = (goal.at.loop-from-preserved-in-Access c).After-kind_of-kind in
    let q = tells _ _ c.in-Access.ensures in
    answered at _ (state_at at) c.access_line-at.new.store c.access_line-at.new.out c.access_line-at.result q.1
    (c.access_line-at.ensures (state_at at) _ q.0 refl refl) c.access_line-at.auto.store c.access_line-at.auto.out

pub loop-from-preserved-in-Ok : goal.loop-from-preserved-in-Ok
loop-from-preserved-in-Ok c =
    let at : After-kind_of-kind = (goal.at.loop-from-preserved-in-Ok c).After-kind_of-kind in
    let q = tells _ _ c.in-Object.ensures in
    answered at _ _ c.object_line-r.new.store c.object_line-r.new.out c.object_line-r.result.at q.1
    (rw c.in-Ok.is at (object_told c.object_line-r.ensures (state_at at) refl refl (λ l. refl))) c.object_line-r.auto.store c.object_line-r.auto.out

pub loop-from-preserved-in_default : goal.loop-from-preserved-in_default
loop-from-preserved-in_default c =
    let at : After-kind_of-kind = (goal.at.loop-from-preserved-in_default c).After-kind_of-kind in
    let q = tells _ _ c.in-Object.ensures in
    answered at _ _ c.object_line-r.new.store c.object_line-r.new.out c.object_line-r.result.at q.1
    (rw c.in_default.is at (object_told c.object_line-r.ensures (state_at at) refl refl (λ l. refl))) c.object_line-r.auto.store c.object_line-r.auto.out

pub loop-from-preserved-in-Ok-domain_call : goal.loop-from-preserved-in-Ok-domain_call
loop-from-preserved-in-Ok-domain_call c =
    let at : After-kind_of-kind = (goal.at.loop-from-preserved-in-Ok-domain_call c).After-kind_of-kind in
    let q = tells _ _ c.in-Domain.ensures in
    let moves = rw c.in-Ok-domain_call.is at c.domain_call.ensures in
    answered at _ _ c.loop-from.store c.put_answer-at.new.out c.put_answer-at.result q.1
    (domain_told c.loop-from.table _ _ (Ok _) c.loop-from.store c.loop-from.out c.loop-from.at c.loop-from.number moves (search rules)
    c.put_answer-at.ensures.0 c.put_answer-at.ensures.1 (state_at at) _ q.0 refl refl) refl c.put_answer-at.auto.out

pub loop-from-preserved-in-Err : goal.loop-from-preserved-in-Err
loop-from-preserved-in-Err c =
    let at : After-kind_of-kind = (goal.at.loop-from-preserved-in-Err c).After-kind_of-kind in
    let q = tells _ _ c.in-Domain.ensures in
    let moves = rw c.in-Err.is at c.domain_call.ensures in
    let p = rw c.from.ensures at c.put_line-at-in-Err.ensures in
    answered at _ _ c.loop-from.store c.put_line-at-in-Err.new.out c.put_line-at-in-Err.result q.1
    (domain_told c.loop-from.table _ _ (Err _) c.loop-from.store c.loop-from.out c.loop-from.at c.loop-from.number moves refl
    p.0 p.1 (state_at at) _ q.0 refl refl) refl c.put_line-at-in-Err.auto.out

pub loop-from-preserved : goal.loop-from-preserved
loop-from-preserved c =
    let at : After-kind_of-kind = (goal.at.loop-from-preserved c).After-kind_of-kind in
    answered at _ _ c.boot_line-r.new.store c.boot_line-r.new.out c.boot_line-r.result.at (tells _ _ c.in-Boot.ensures)
    (rw c.state_of-old.ensures at c.boot_line-r.ensures) c.boot_line-r.auto.store c.boot_line-r.auto.out

pub returns : goal.returns
returns c =
    let long : length c.args.f.line ≡ held_bytes = omega (arith, c.well_formed) in
    let clip
    : progress_at c.args.f.state c.args.store.now c.args.f.number c.first-held.result.bytes c.first-held.result.count c.args.out.now c.min-at.result
    ≡ progress_of c.args.f c.args.store.now c.args.out.now =
    rw c.first-held.ensures.same
    (clip_progress c.args.f.state c.args.store.now c.args.f.number c.args.f.line c.args.f.held c.args.out.now c.args.f.at long c.first-held.ensures.clipped
    c.min-at.ensures)
    in
    record {
      out_after = rw c.state_of.ensures (c.loop-from.invariant.fed.done ∙ ap (λ z. foldl (on_held unchecked) z (take c.loop-from.from c.args.piece.now)) clip);
      taken_in_bounds = (
        c.loop-from.invariant.fed.bound,
        rw (← c.loop-from.invariant.buffer)
            (stopped_at (length c.args.piece.now) (length c.loop-from.out) c.loop-from.from c.loop-from.at c.has_room.result c.loop-from.invariant.fed.bound
            c.has_room.ensures c.loop-from-test.false),
        omega arith,
        c.loop-from.invariant.few,
      );
    }
