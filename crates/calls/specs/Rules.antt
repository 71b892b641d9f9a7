-- The calls, one rule each: document 01, "The calls". What is checked follows from the rule, in the order of "In checking order".
use Rattle.std.specs.Prelude.{ℕ, ◌*◌, ◌/◌, Bool, true, not, ◌&&◌, ◌||◌, List, [], ◌∷◌, ◌++◌, leb, ltb, eqb, Option, Some, None}
use Rattle.rights.specs.Modes.{legal, read, write, execute, destroy, pdx, owner}
use Rattle.state.specs.Places.{estate_at, domain_at}
use Rattle.state.specs.Extent.{covers, lies_in}
use Rattle.state.specs.Lookup.{has_room, free_password_place, has_password}
use Rattle.state.specs.Update.{insert_slot, remove_slot, lock_slot, save_domain, restore_domain, new_object, with_registration, add_password, drop_password, insert_object}
use Rattle.state.specs.declared.Frame.{Frame}
use Rattle.judge.specs.declared.Target.TheVariants.{Address}
use Rattle.calls.specs.View.{Want, nothing, rights, Charge, World, Judging, View, Check, check, search, passes, permitted, within_limit, is_some, object_of, word_of, pair_of}
use Rattle.calls.specs.Arguments.{entries_all, run_free, is_entry}
use Rattle.calls.specs.Changes.{frame_fields, Change, word, zeros, estate, domain, capability, registration, becomes, goes, entered}
use Rattle.calls.specs.Rule.{Touch, touches_nothing, touches_word, touches_slots, Rule, says, always, unless_whole, valueless, untold, in_store, is_page, is_account, access, on_object, on_frame}
use Rattle.calls.specs.declared.Call.{Call}
use Rattle.calls.specs.declared.Call.TheVariants.{OnStore, OnObject, OnDomain}
use Rattle.calls.specs.declared.Access.{Access}
use Rattle.calls.specs.declared.Access.TheVariants.{Read, Write, Execute, Lookup}
use Rattle.calls.specs.declared.ObjectCall.{ObjectCall}
use Rattle.calls.specs.declared.ObjectCall.TheVariants.{Create, Delete, AddPassword, DropPassword, Register}
use Rattle.calls.specs.declared.DomainCall.{DomainCall}
use Rattle.calls.specs.declared.DomainCall.TheVariants.{Insert, Remove, Get, Lock, PdxCall, PdxReturn}
use Rattle.calls.specs.declared.Presented.{Presented}
use Rattle.calls.specs.declared.Fields.{Fields}
use Rattle.calls.specs.declared.Refusal.TheVariants.{NoDomain, OutOfRange, Locked, NotGranted, NotEntry, NoRun, NotPermitted, LimitPassed, HasPassword, Full, Missing}

abbrev access_rule : Access → Rule
-- RD: the value is the word
access_rule (Read a) = access (in_store a) a read (λ v. word_of v.found) [] touches_nothing
-- WR: stores the word
access_rule (Write a x) = access (in_store a) a write valueless (word a x ∷ []) (touches_word a)
-- EX: the value is the address
access_rule (Execute a) = access (in_store a) a execute (λ v. a) [] touches_nothing
-- LK, of rights 1 to 31: the value is the granting pair's address
access_rule (Lookup a r) = access (in_store a && ltb 0 r && ltb r 32) a r (λ v. pair_of v.found) [] touches_nothing

abbrev object_rule : ObjectCall → Rule
-- CR: one object more in the caller's estate, with one password in the owner's mode and its words zeroed, its pages charged to an account
-- (document 02, T-05), at its place by rising base (T-06)
object_rule (Create p n k a) =
    says (is_page p && ltb 0 n && leb n 32 && not (eqb k 0) && is_account a) always nothing None (Some (record { account = a; pages = n }))
    (λ d v. check NoRun (lies_in (new_object p n k a) d && run_free v.estate (new_object p n k a))
    ∷ check NotPermitted v.permits
    ∷ check LimitPassed v.fits
    ∷ check Full (has_room v.estate)
    ∷ [])
    valueless untold
    (λ d v. estate d (insert_object v.estate (new_object p n k a)) ∷ zeros (64 * p) (64 * n) ∷ []) touches_nothing
-- DL: the object goes and those behind it close the gap (T-06), its words stay
object_rule (Delete b) = on_object (is_page b) always b destroy None (λ o. []) (goes b)
-- AP: a password more, behind the last (T-06); the whole lock stops it (document 02, T-03)
object_rule (AddPassword b k m) =
    on_object (is_page b && not (eqb k 0) && legal m) unless_whole b owner None
    (λ o. check HasPassword (not (has_password o k)) ∷ check Full (ltb (free_password_place o) 4) ∷ [])
    (becomes b (λ o. add_password o k m))
-- DP: a password goes and the younger ones close the gap (T-06), or the registration that has it goes
object_rule (DropPassword b k) = on_object (is_page b) always b owner None (λ o. check Missing (has_password o k) ∷ []) (becomes b (λ o. drop_password o k))
-- RG: the object becomes a procedure, with 1 to 4 entries inside it and a Clist capability that passes rule 1; the whole lock stops it
-- (document 02, T-03)
object_rule (Register b k l es) =
    on_object (is_page b && not (eqb k 0) && is_page l.page && ltb 0 es.count && leb es.count 4 && entries_all in_store es) unless_whole b
    owner (Some l)
    (λ o. check NotEntry (entries_all (λ a. covers o (a / 64)) es)
    ∷ check HasPassword (not (has_password o k))
    ∷ check Full (eqb o.registration.password 0)
    ∷ [])
    (becomes b (λ o. with_registration o (registration k l es)))

-- neither a lock before the slot nor the whole lock
abbrev unlocked_from : ℕ → Frame → Bool
unlocked_from i f = leb f.locked i && unless_whole f

abbrev domain_rule : DomainCall → Rule
-- IN: a capability that passes rule 1 becomes slot i
domain_rule (Insert i l) =
    on_frame (ltb i 8 && is_page l.page) (unlocked_from i) (Some l) (λ f. check Full (ltb f.count 8) ∷ check Missing (leb i f.count) ∷ [])
    (λ f. insert_slot f i (capability l)) touches_slots
-- RM: slot i goes
domain_rule (Remove i) =
    on_frame (ltb i 8) (unlocked_from i) None (λ f. check Missing (ltb i f.count) ∷ []) (λ f. remove_slot f i) touches_slots
-- GT: the fields of the frame
domain_rule Get = says true always nothing None None (λ d v. []) valueless (λ v. frame_fields v.domain.active) (λ d v. []) touches_nothing
-- LO: locks slot i and all before it; 255 sets the whole lock
domain_rule (Lock i) =
    on_frame (ltb i 8 || eqb i 255) always None (λ f. check Missing (eqb i 255 || ltb i f.count) ∷ []) (λ f. lock_slot f i) touches_nothing
-- CA, with choice 0 (merge) or 1 (empty): the domain is saved, and the registered Clist comes in; the value is the entry
domain_rule (PdxCall a ch) =
    says (in_store a && ltb ch 2) unless_whole (rights (Address a) pdx) None None
    (λ d v. check NotEntry (is_entry (object_of v.found) a)
    ∷ check Full (not (eqb ch 0) || ltb v.domain.active.count 8)
    ∷ check Full (ltb v.domain.depth 4)
    ∷ [])
    (λ v. a) untold
    (λ d v. domain d (save_domain v.domain (entered ch v.domain.active (object_of v.found).registration.list)) ∷ []) touches_slots
-- RT: the domain saved last comes back
domain_rule PdxReturn =
    says true always nothing None None (λ d v. check Missing (ltb 0 v.domain.depth) ∷ []) valueless untold
    (λ d v. domain d (restore_domain v.domain) ∷ []) touches_slots

unfoldable pub rule : Call → Rule
rule (OnStore c) = access_rule c
rule (OnObject c) = object_rule c
rule (OnDomain c) = domain_rule c

-- the parts of a rule
unfoldable pub in_range : Call → Bool
unfolding rule
in_range c = (rule c).range

unfoldable pub unlocked : Call → Frame → Bool
unfolding rule
unlocked c f = (rule c).unlocked f

abbrev pub wanted : Call → Want
wanted c = (rule c).want

abbrev pub presented : Call → Option Presented
presented c = (rule c).presents

abbrev pub charged : Call → Option Charge
charged c = (rule c).charges

abbrev pub value : Call → View → ℕ
value c v = (rule c).value v

abbrev pub fields : Call → View → Fields
fields c v = (rule c).fields v

unfoldable pub changes : ℕ → Call → View → List Change
unfolding rule
changes d c v = (rule c).changes d v

unfoldable pub touched : Call → Touch
unfolding rule
touched c = (rule c).touch

-- 4 to 6: what is checked before judging
unfoldable pub early : ℕ → Call → Frame → List Check
early d c f = check NoDomain (ltb d 4) ∷ check OutOfRange (in_range c) ∷ check Locked (unlocked c f) ∷ []

-- 7: the wanted rights are granted, and what is presented passes rule 1
abbrev pub granted_check : Want → View → List Check
granted_check nothing v = []
granted_check (rights target r) v = check NotGranted (is_some v.found) ∷ []

abbrev pub presented_check : Option Presented → View → List Check
presented_check None v = []
presented_check (Some l) v = check NotGranted v.live ∷ []

-- 7 to 12, with 14 and 15
unfoldable pub late : ℕ → Call → View → List Check
unfolding rule
late d c v = granted_check (rule c).want v ++ presented_check (rule c).presents v ++ (rule c).rest d v

-- 4 to 12, with 14 and 15
unfoldable pub checks : ℕ → Call → View → List Check
checks d c v = early d c v.domain.active ++ late d c v

-- what a call of a domain reads; where an earlier check fails, what the search gives is not looked at
unfoldable pub view : Judging → World → ℕ → Call → View
view judging w d c =
    record {
      domain = domain_at w.state d;
      estate = estate_at w.state.table d;
      found = search judging w (domain_at w.state d).active (wanted c);
      live = passes w.state.table (presented c);
      permits = permitted w.state.accounts d (charged c);
      fits = within_limit w.state.table w.state.accounts d (charged c);
    }
