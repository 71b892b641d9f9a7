use Rattle.std.proofs.Common.{◌≡◌, cond, ℕ, suc, ◌-◌, ◌<◌, ◌≤◌, ltb, get_or, arith, lt-ltb, le-ltb}
use Rattle.bounded.specs.Fill.{tabulate_at}
use Rattle.state.specs.Places.{slot_at}
use Rattle.state.specs.declared.Frame.{Frame}
use Rattle.calls.specs.Changes.{frame_fields}
use Rattle.domain_calls.proofs.field_at.Goals as goal

-- from the fourth on the fields are the pages
page_field : (f : Frame) (i : ℕ) → 3 ≤ i → i < 11
    → get_or (frame_fields f).values i 0 ≡ cond (ltb (i - 3) f.count) (slot_at f (i - 3)).page 0
unfolding frame_fields
page_field f (suc (suc (suc k))) h l =
    let e : suc (suc (suc k)) - 3 ≡ k = omega arith in
    rw e (tabulate_at 8 (λ j. cond (ltb j f.count) (slot_at f j).page 0) k 0 (omega arith))
page_field f _ h l = absurd (omega arith)

pub returns-in_default : goal.returns-in_default
returns-in_default c =
    rw (page_field c.args.f c.args.i (omega arith) c.requires, lt-ltb (c.args.i - 3) c.args.f.count (omega arith)) c.from-in_default.ensures

pub returns-in_default-2 : goal.returns-in_default-2
returns-in_default-2 c = rw (page_field c.args.f c.args.i (omega arith) c.requires, le-ltb (c.args.i - 3) c.args.f.count (omega arith))
