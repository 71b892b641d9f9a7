-- How the state lies in its image, field by field in the order of the structs, unused places too: document 02, T-02; docs/IMAGE.md is the
-- same as a table. The number behind `Codec` is the length in bytes.
use Rattle.std.specs.Prelude.{refl, ℕ, List}
use Rattle.codec.specs.Codec.{Codec, via}
use Rattle.codec.specs.Number.{number, byte, truth}
use Rattle.codec.specs.Pair.{◌then◌}
use Rattle.codec.specs.Array.{array}
use Rattle.layout.specs.Sizes.{capability_size, password_size, entries_size, registration_size, passwords_size, object_size, estate_size, table_size, slots_size, frame_size, saved_size, domain_size, domains_size, accounts_size, state_size}
use Rattle.state.specs.Places.{no_capability, no_password, no_object, no_estate, no_frame, no_domain}
use Rattle.state.specs.declared.Capability.{Capability}
use Rattle.state.specs.declared.Password.{Password}
use Rattle.state.specs.declared.Registration.{Registration}
use Rattle.state.specs.declared.Object.{Object}
use Rattle.state.specs.declared.Estate.{Estate}
use Rattle.state.specs.declared.Table.{Table}
use Rattle.state.specs.declared.Frame.{Frame}
use Rattle.state.specs.declared.Domain.{Domain}
use Rattle.state.specs.declared.Accounts.{Accounts}
use Rattle.state.specs.declared.State.{State}

unfoldable pub capability : Codec capability_size Capability
capability = via (byte then number 8) (λ p. record { page = p.0; password = p.1 }) (λ c. (c.page, c.password)) (λ p. refl) (λ c. refl)

unfoldable pub password : Codec password_size Password
password = via (number 8 then byte) (λ p. record { word = p.0; mode = p.1 }) (λ c. (c.word, c.mode)) (λ p. refl) (λ c. refl)

unfoldable pub entries : Codec entries_size (List ℕ)
entries = array 4 (number 2) 0

unfoldable pub registration : Codec registration_size Registration
registration =
    via (number 8 then capability then byte then entries)
    (λ p. record { password = p.0; list = p.1.0; count = p.1.1.0; entries = p.1.1.1 })
    (λ g. (g.password, (g.list, (g.count, g.entries)))) (λ p. refl) (λ g. refl)

unfoldable pub passwords : Codec passwords_size (List Password)
passwords = array 4 password no_password

unfoldable pub object : Codec object_size Object
object =
    via (byte then byte then passwords then registration then byte)
    (λ p. record { base = p.0; pages = p.1.0; passwords = p.1.1.0; registration = p.1.1.1.0; account = p.1.1.1.1 })
    (λ o. (o.base, (o.pages, (o.passwords, (o.registration, o.account))))) (λ p. refl) (λ o. refl)

unfoldable pub objects : Codec estate_size (List Object)
objects = array 8 object no_object

unfoldable pub estate : Codec estate_size Estate
estate = via objects (λ p. record { objects = p }) (λ e. e.objects) (λ p. refl) (λ e. refl)

unfoldable pub estates : Codec table_size (List Estate)
estates = array 4 estate no_estate

unfoldable pub table : Codec table_size Table
table = via estates (λ p. record { estates = p }) (λ t. t.estates) (λ p. refl) (λ t. refl)

unfoldable pub slots : Codec slots_size (List Capability)
slots = array 8 capability no_capability

unfoldable pub frame : Codec frame_size Frame
frame =
    via (slots then byte then byte then truth)
    (λ p. record { slots = p.0; count = p.1.0; locked = p.1.1.0; whole = p.1.1.1 })
    (λ f. (f.slots, (f.count, (f.locked, f.whole)))) (λ p. refl) (λ f. refl)

unfoldable pub saved : Codec saved_size (List Frame)
saved = array 4 frame no_frame

unfoldable pub domain : Codec domain_size Domain
domain =
    via (frame then saved then byte)
    (λ p. record { active = p.0; saved = p.1.0; depth = p.1.1 })
    (λ m. (m.active, (m.saved, m.depth))) (λ p. refl) (λ m. refl)

unfoldable pub domains : Codec domains_size (List Domain)
domains = array 4 domain no_domain

unfoldable pub four_bytes : Codec 4 (List ℕ)
four_bytes = array 4 byte 0

unfoldable pub accounts : Codec accounts_size Accounts
accounts = via (four_bytes then four_bytes) (λ p. record { limits = p.0; sets = p.1 }) (λ x. (x.limits, x.sets)) (λ p. refl) (λ x. refl)

unfoldable pub state : Codec state_size State
state =
    via (table then domains then accounts)
    (λ p. record { table = p.0; domains = p.1.0; accounts = p.1.1 })
    (λ s. (s.table, (s.domains, s.accounts))) (λ p. refl) (λ s. refl)
