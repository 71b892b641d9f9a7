-- Values that are all zero, by their parts.
use Rattle.std.specs.Prelude.{ℕ, suc, ◌<◌, ◌≡◌, refl, true, false, List, [], ◌∷◌, eqb, length, get_or, replicate}
use Rattle.std.proofs.Common.{ap, ◌∙◌, arith, eqb-true}
use Rattle.std.proofs.Math.Nat.{suc_inj}
use Rattle.bounded.specs.Bools.{and_left, and_right}
use Rattle.state.specs.Places.{no_capability, no_password, free_registration, free_object, empty_frame, slot_at, password_at}
use Rattle.soundness.specs.Sound.{blank}
use Rattle.state.specs.declared.Capability.{Capability}
use Rattle.state.specs.declared.Password.{Password}
use Rattle.state.specs.declared.Registration.{Registration}
use Rattle.state.specs.declared.Object.{Object}
use Rattle.state.specs.declared.Frame.{Frame}

-- a list with the same at each place
all_same : {A : Type 0} (n : ℕ) (l : List A) (v d : A) → length l ≡ n → ((k : ℕ) → k < n → get_or l k d ≡ v) → l ≡ replicate n v
all_same ℕ.zero [] v d e h = refl
all_same ℕ.zero (x ∷ l) v d e h = absurd (omega arith)
all_same (suc n) [] v d e h = absurd (omega arith)
all_same (suc n) (x ∷ l) v d e h = rw (h 0 (omega arith)) (ap (λ t. v ∷ t) (all_same n l v d (suc_inj e) (λ k m. h (suc k) (omega arith))))

-- a capability
pub blank_none : (c : Capability) → blank c ≡ true → c ≡ no_capability
unfolding blank
blank_none c h =
    ap (λ p. record { page = p; password = c.password }) (eqb-true _ 0 (and_left (eqb c.page 0) _ h))
    ∙ ap (λ w. record { page = 0; password = w }) (eqb-true _ 0 (and_right (eqb c.page 0) _ h))

-- a password
pub zero_password : (p : Password) → p.word ≡ 0 → p.mode ≡ 0 → p ≡ no_password
zero_password p e f = ap (λ w. record { word = w; mode = p.mode }) e ∙ ap (λ m. record { word = 0; mode = m }) f

-- a registration
pub zero_registration : (g : Registration) → g.password ≡ 0 → g.list ≡ no_capability → g.count ≡ 0 → length g.entries ≡ 4
    → ((k : ℕ) → k < 4 → get_or g.entries k 0 ≡ 0) → g ≡ free_registration
zero_registration g e f n l h =
    ap (λ w. record { password = w; list = g.list; count = g.count; entries = g.entries }) e
    ∙ ap (λ c. record { password = 0; list = c; count = g.count; entries = g.entries }) f
    ∙ ap (λ m. record { password = 0; list = no_capability; count = m; entries = g.entries }) n
    ∙ ap (λ t. record { password = 0; list = no_capability; count = 0; entries = t }) (all_same 4 g.entries 0 0 l h)

-- an object
pub zero_object : (o : Object) → o.base ≡ 0 → o.pages ≡ 0 → length o.passwords ≡ 4
    → ((k : ℕ) → k < 4 → password_at o k ≡ no_password) → o.registration ≡ free_registration → o.account ≡ 0 → o ≡ free_object
zero_object o b p l h g a =
    ap (λ n. record { base = n; pages = o.pages; passwords = o.passwords; registration = o.registration; account = o.account }) b
    ∙ ap (λ n. record { base = 0; pages = n; passwords = o.passwords; registration = o.registration; account = o.account }) p
    ∙ ap (λ t. record { base = 0; pages = 0; passwords = t; registration = o.registration; account = o.account }) (all_same 4 o.passwords no_password no_password l h)
    ∙ ap (λ r. record { base = 0; pages = 0; passwords = replicate 4 no_password; registration = r; account = o.account }) g
    ∙ ap (λ n. record { base = 0; pages = 0; passwords = replicate 4 no_password; registration = free_registration; account = n }) a

-- a frame
pub zero_frame : (f : Frame) → length f.slots ≡ 8 → ((k : ℕ) → k < 8 → slot_at f k ≡ no_capability) → f.count ≡ 0 → f.locked ≡ 0
    → f.whole ≡ false → f ≡ empty_frame
zero_frame f l h n m w =
    ap (λ t. record { slots = t; count = f.count; locked = f.locked; whole = f.whole }) (all_same 8 f.slots no_capability no_capability l h)
    ∙ ap (λ k. record { slots = replicate 8 no_capability; count = k; locked = f.locked; whole = f.whole }) n
    ∙ ap (λ k. record { slots = replicate 8 no_capability; count = 0; locked = k; whole = f.whole }) m
    ∙ ap (λ b. record { slots = replicate 8 no_capability; count = 0; locked = 0; whole = b }) w
