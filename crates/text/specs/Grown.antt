-- Text that is put at a cursor.
use Rattle.std.specs.Prelude.{ℕ, ◌≡◌, refl, List, [], ◌++◌, length}
use Rattle.std.proofs.Common.{◌∙◌}
use Rattle.text.specs.Puts.{Put, put_none, then}
use Rattle.text.specs.declared.cursor.Cursor.{Cursor}

-- s is put at the place, and the place is behind it: in the same buffer, which keeps its length
pub record Grown (old : Cursor) (s : List ℕ) (new : Cursor) : Type 0 where
  pub same_buffer : new.out.ghost_name ≡ old.out.ghost_name
  pub same_length : length new.out.now ≡ length old.out.now
  pub put : Put old.out.now old.at s new.out.now new.at

pub grown_none : (c : Cursor) → Grown c [] c
grown_none c = record { same_buffer = refl; same_length = refl; put = put_none _ _ }

pub grown_then : {a b c : Cursor} {s t : List ℕ} → Grown a s b → Grown b t c → Grown a (s ++ t) c
grown_then p q =
    record {
      same_buffer = q.same_buffer ∙ p.same_buffer;
      same_length = q.same_length ∙ p.same_length;
      put = then p.put q.put;
    }
