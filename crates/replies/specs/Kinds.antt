-- What a line asks for, and how a line of each kind is answered and printed.
use Rattle.std.specs.Prelude.{ℕ, ◌<◌, ◌≡◌, refl, List, [], ◌∷◌, length, replicate, Option, Some, None, Result, Ok, Err}
use Rattle.std.proofs.Common.{arith}
use Rattle.std.proofs.lemmas.List.{length-replicate}
use Rattle.state.specs.Places.{domain_at}
use Rattle.state.specs.declared.Table.{Table}
use Rattle.state.specs.declared.Frame.{Frame}
use Rattle.state.specs.declared.Domain.{Domain}
use Rattle.state.specs.declared.Accounts.{Accounts}
use Rattle.state.specs.declared.State.{State}
use Rattle.calls.specs.Answers.{number_of, value_of, refusal_number, no_fields, values_from}
use Rattle.calls.specs.View.{World}
use Rattle.calls.specs.Step.{world, result_of, answered_with, unchecked}
use Rattle.calls.specs.Boot.{boot}
use Rattle.calls.specs.Parts.{caller_of, Answers, with_altered, with_moved, Alters, Moves}
use Rattle.calls.specs.Laws.Returns.{by_caller, caller_known}
use Rattle.calls.specs.declared.Call.{Call as Asked}
use Rattle.calls.specs.declared.Call.TheVariants.{OnStore, OnObject, OnDomain}
use Rattle.calls.specs.declared.Access.{Access}
use Rattle.calls.specs.declared.ObjectCall.{ObjectCall}
use Rattle.calls.specs.declared.DomainCall.{DomainCall}
use Rattle.calls.specs.Answers.{Answer}
use Rattle.calls.specs.declared.Fields.{Fields}
use Rattle.calls.specs.declared.Outcome.{Outcome}
use Rattle.calls.specs.declared.Altered.{Altered}
use Rattle.calls.specs.declared.Moved.{Moved}
use Rattle.lines.specs.Reading.{boot_by, call_by, reads}
use Rattle.lines.specs.declared.Line.{Line}
use Rattle.lines.specs.declared.Line.TheVariants.{Boot, Call}
use Rattle.text.specs.Answer.{printed, printed_end}
use Rattle.replies.specs.Reply.{state_after, reply}
use Rattle.replies.specs.Told.{Told, values_few}
use Rattle.replies.specs.declared.Kind.{Kind}
use Rattle.replies.specs.declared.Kind.TheVariants as kind
use Rattle.calls.specs.declared.Refusal.{Refusal}
use Rattle.replies.specs.declared.ObjectReply.{ObjectReply}

-- the kind of a call by its caller, and of a line with a store of n words: what is answered at once is known by its number
abbrev pub call_kind : Result ℕ Refusal → Asked → Kind
call_kind (Ok d) (OnStore c) = kind.Access d c
call_kind (Ok d) (OnObject c) = kind.Object d c
call_kind (Ok d) (OnDomain c) = kind.Domain d c
call_kind (Err why) c = kind.Known (refusal_number why)

abbrev pub kind_of : ℕ → Option Line → Kind
kind_of n None = kind.Known 1
kind_of n (Some (Boot d)) = kind.Boot d
kind_of n (Some (Call d c)) = call_kind (caller_of n d) c

-- an access, answered and printed, in every state with these parts
abbrev pub AccessTold : Table → Frame → Access → ℕ → List ℕ → List ℕ → List ℕ → ℕ → List ℕ → ℕ → Type 0
AccessTold t f c number words words' out at out' at' =
    (s : State) (d : ℕ) → d < 4 → s.table ≡ t → (domain_at s d).active ≡ f
    → Told number out at out' at' (world s words') (reply unchecked (world s words) (call_by d (OnStore c)))

-- the answer of a call on objects, by what it gives: a done one has the value 0
abbrev pub object_answer : Result Altered Refusal → Answer
object_answer (Ok new) = Ok 0
object_answer (Err why) = Err why

-- and that of a call on the caller's domain, with its fields
abbrev pub domain_answer : Result Moved Refusal → Answer
domain_answer (Ok new) = Ok new.value
domain_answer (Err why) = Err why

abbrev pub domain_fields : Result Moved Refusal → Fields
domain_fields (Ok new) = new.fields
domain_fields (Err why) = no_fields

-- a call on objects, answered and printed: what it gives, and the text of its answer
pub record ObjectTold (t : Table) (x : Accounts) (d : ℕ) (f : Frame) (c : ObjectCall) (number : ℕ) (words words' out : List ℕ) (at : ℕ) (out' : List ℕ)
    (r : ObjectReply) : Type 0 where
  pub alters : Alters t x d f words c r.altered words'
  pub text : out' ≡ printed out at number (number_of (object_answer r.altered)) (value_of (object_answer r.altered) ∷ [])
  pub end : r.at ≡ printed_end out at number (number_of (object_answer r.altered)) (value_of (object_answer r.altered) ∷ [])

-- what a kind tells of the line
abbrev pub IsKind : Kind → ℕ → Option Line → Type 0
IsKind (kind.Known number) n l = (plan : List ℕ) (w : World) → length w.words ≡ n → reply unchecked w (reads l plan) ≡ record { number = number; values = 0 ∷ []; world = w }
IsKind (kind.Access d c) n l = (d < 4) × (l ≡ Some (Call d (OnStore c)))
IsKind (kind.Object d c) n l = (d < 4) × (l ≡ Some (Call d (OnObject c)))
IsKind (kind.Domain d c) n l = (d < 4) × (l ≡ Some (Call d (OnDomain c)))
IsKind (kind.Boot d) n l = l ≡ Some (Boot d)

-- a caller that is known, with a store of n words
known_caller : (n d k : ℕ) → caller_of n d ≡ Ok k → (k < 4) × (k ≡ d)
known_caller n d k h =
    let zero : ℕ = 0 in
    let l : length (replicate n zero) ≡ n = length-replicate n zero in
    let (e, q) = caller_known (replicate n zero) d k (rw l h) in
    (rw q e.known, q)

kind_tells : (n : ℕ) (l : Option Line) → IsKind (kind_of n l) n l
unfolding reply
kind_tells n None = λ plan w h. refl
kind_tells n (Some (Boot d)) = refl
kind_tells n (Some (Call d c)) = go (caller_of n d) refl c
  where
    go : (x : Result ℕ Refusal) → caller_of n d ≡ x → (c : Asked) → IsKind (call_kind x c) n (Some (Call d c))
    go (Ok k) e (OnStore a) = let (l, q) = known_caller n d k e in (l, rw q)
    go (Ok k) e (OnObject a) = let (l, q) = known_caller n d k e in (l, rw q)
    go (Ok k) e (OnDomain a) = let (l, q) = known_caller n d k e in (l, rw q)
    go (Err why) e c = λ plan w h. rw (← by_caller w.state w.words d c why (rw h e))

pub tells : {k : Kind} (n : ℕ) (l : Option Line) → k ≡ kind_of n l → IsKind k n l
tells n l e = rw e (kind_tells n l)

-- how the calls are printed
pub access_told : (t : Table) (f : Frame) (c : Access) (a : Answer) (words words' out : List ℕ) (at n : ℕ) {out' : List ℕ} {at' : ℕ}
    → Answers t f words c a words' → out' ≡ printed out at n (number_of a) (value_of a ∷ []) → at' ≡ printed_end out at n (number_of a) (value_of a ∷ [])
    → AccessTold t f c n words words' out at out' at'
unfolding reply
access_told t f c a words words' out at n g p q s d e i j = rw (← g s d e i j) (record { text = p; end = q; world = refl; few = omega arith })

-- the state behind a call on objects, and behind one on domain d
abbrev pub state_altered : State → Result Altered Refusal → State
state_altered s r = (with_altered s r).state

abbrev pub state_moved : State → ℕ → Result Moved Refusal → State
state_moved s d r = (with_moved s d r).state

-- by what a call gives, its answer and its fields are those of its outcome
object_outcome : (s : State) (r : Result Altered Refusal) → with_altered s r ≡ answered_with (state_altered s r) (object_answer r)
object_outcome s (Ok new) = refl
object_outcome s (Err why) = refl

domain_outcome : (s : State) (d : ℕ) (r : Result Moved Refusal)
    → with_moved s d r ≡ record { answer = domain_answer r; fields = domain_fields r; state = state_moved s d r }
domain_outcome s d (Ok new) = refl
domain_outcome s d (Err why) = refl

pub object_told : {t : Table} {x : Accounts} {d : ℕ} {f : Frame} {c : ObjectCall} {n : ℕ} {words words' out : List ℕ} {at : ℕ} {out' : List ℕ} {r : ObjectReply}
    → ObjectTold t x d f c n words words' out at out' r → (s : State) → s.table ≡ t → s.accounts ≡ x → (d < 4 → (domain_at s d).active ≡ f)
    → Told n out at out' r.at (world (state_altered s r.altered) words') (reply unchecked (world s words) (call_by d (OnObject c)))
unfolding reply
object_told {r = r} o s i a j =
    rw (← o.alters.does s i a j, object_outcome s r.altered) (record { text = o.text; end = o.end; world = refl; few = omega arith })

pub domain_told : (t : Table) (m : Domain) (c : DomainCall) (r : Result Moved Refusal) (words out : List ℕ) (at n : ℕ) {out' : List ℕ} {at' : ℕ}
    → Moves t m words c r → length (domain_fields r).values ≡ 11
    → out' ≡ printed out at n (number_of (domain_answer r)) (values_from (domain_answer r) (domain_fields r))
    → at' ≡ printed_end out at n (number_of (domain_answer r)) (values_from (domain_answer r) (domain_fields r))
    → (s : State) (d : ℕ) → d < 4 → s.table ≡ t → domain_at s d ≡ m
    → Told n out at out' at' (world (state_moved s d r) words) (reply unchecked (world s words) (call_by d (OnDomain c)))
unfolding reply
domain_told t m c r words out at n g f p q s d e i j =
    rw (← g s d e i j, domain_outcome s d r) (record { text = p; end = q; world = refl; few = values_few (domain_answer r) (domain_fields r) f })

-- a boot, printed: a refused one keeps the state that stands
pub boot_told : (s : State) (words : List ℕ) (d : ℕ) (plan : List ℕ) (o : Outcome) (words' : List ℕ) (after : State) (out : List ℕ) (at n : ℕ) {out' : List ℕ} {at' : ℕ}
    → result_of o words' ≡ boot words d plan → state_after s o.answer o.state ≡ after → length o.fields.values ≡ 11
    → out' ≡ printed out at n (number_of o.answer) (values_from o.answer o.fields)
    → at' ≡ printed_end out at n (number_of o.answer) (values_from o.answer o.fields)
    → Told n out at out' at' (world after words') (reply unchecked (world s words) (boot_by d plan))
unfolding reply
boot_told s words d plan o words' after out at n e k f p q =
    rw (← e, ← k) (record { text = p; end = q; world = refl; few = values_few o.answer o.fields f })

-- a line whose answer is known, printed
pub known_told : (w : World) (l : Option Line) (plan : List ℕ) (a : ℕ) (out : List ℕ) (at n : ℕ) {out' : List ℕ} {at' : ℕ} → IsKind (kind.Known a) (length w.words) l
    → out' ≡ printed out at n a (0 ∷ []) → at' ≡ printed_end out at n a (0 ∷ []) → Told n out at out' at' w (reply unchecked w (reads l plan))
known_told w l plan a out at n k p q = rw (k plan w refl) (record { text = p; end = q; world = refl; few = omega arith })
