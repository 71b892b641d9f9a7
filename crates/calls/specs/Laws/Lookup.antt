-- LK at the door: the first granting pair. Document 02, T-07: a granted lookup gives it (proofs/Lookup.antt).
use Rattle.std.specs.Prelude.{ℕ}
use Rattle.state.specs.Places.{domain_at}
use Rattle.judge.specs.Granting.{Allowed}
use Rattle.judge.specs.declared.Target.TheVariants.{Address}
use Rattle.calls.specs.View.{World}

module _ (w : World) (d a r : ℕ) where
  -- the pair at an address is the first, by slot and then by place, that grants the rights in the caller's live lists, and none there denies
  abbrev pub FirstGranting : ℕ → Type 0
  FirstGranting = Allowed w.state.table w.words (domain_at w.state d).active (Address a) r
