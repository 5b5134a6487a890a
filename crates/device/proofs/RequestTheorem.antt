-- Document 02, Item 3, at the device: a request leaves the very device that the plain call leaves, and its reply is the plain call's whole
-- reply as a frame, from which a client reads it back; any other request leaves the very device that it got.
-- Assumes nothing.
use mathlib.Core.Path.{◌≡◌, refl, ap, ◌∙◌, sym}
use mathlib.Core.Bool.{Bool, true, false}
use mathlib.Core.List.{List, [], ◌∷◌}
use Prim.Native.Nat.{ℕ, ◌≤◌, ◌<◌}
use native.Mathlib.Omega.{arith}
use lib.Dec.{eqb}
use lib.ListN.{length}
use borrow.Author.Tests.{eqb-true, eqb-false}
use Rattle.std.specs.Prelude.{Result}
use Rattle.profile.specs.declared.Node.{Node}
use Rattle.profile.specs.declared.refusals.Refusal.{Refusal}
use Rattle.profile.specs.Nodes.{stopped}
use Rattle.profile.specs.Calls.{Plain, Call, direct, request, Reply}
use Rattle.profile.specs.Refusals.{created_number, request_refusal}
use Rattle.profile.specs.Server.{entry_bytes, aborts, asked, encoded}
use Rattle.profile.specs.Machines.{node_alone, mapping, Machine}
use Rattle.profile.specs.Replies.{count_reply, silent}
use Rattle.profile.specs.Lists.{Run}
use Rattle.profile.specs.ServerClaims.{decoded, ReadsFit, Unheard, NoOtherChange}
use Rattle.profile.proofs.BoolLaws.{neither}
use Rattle.profile.proofs.MappingLaws.{mapping_sound}
use Rattle.profile.proofs.ReadLaws.{reads_fit}
use Rattle.profile.proofs.ServerLaws.{Asked, asked_once, as_plain, sent_back, no_other_change, eight_bytes}
use Rattle.profile.proofs.ServerLaws.Asked.{none, one}
use Rattle.device.specs.declared.Device.{Device}
use Rattle.device.specs.View.{machines_of, Normal}
use Rattle.device.specs.Promises.{CreatedAs, Allowed, Ensured}
use Rattle.device.specs.Requests.{SameAsPlain, Requested}
use Rattle.device.specs.Requests.Requested.{refused, unanswered, unknown, plain_call}
use Rattle.device.proofs.Determined.{determined, refused_very_device}
use Rattle.device.proofs.HeldLaws.{device_held}
use Rattle.device.proofs.EveryList.{every_list_of_calls}

-- "A request does exactly what the plain call does": for every request that is a plain call, of a device that is not stopped
pub request_as_plain : (d : Device) → Normal d → (frame buffer : List ℕ) (c : Plain) → length frame ≡ 8 → length buffer ≡ 8
    → stopped (machines_of d node_alone 0).node ≡ false → asked frame ≡ c ∷ [] → (a b : Reply) (r s : Device) → Allowed r → Allowed s
    → Ensured d (request frame buffer) a r → Ensured d (direct c) b s → SameAsPlain frame a b r s
request_as_plain d n frame buffer c l k running asks a b r s p q o u =
    let same = as_plain (machines_of d) frame buffer c l k running asks in
    record {
      device = determined r s p q (o.normal n) (u.normal n) (record {
        at = λ i j h. o.outcome.machines.at i j h ∙ (λ t. same.machines t i j) ∙ sym (u.outcome.machines.at i j h);
      });
      sent = o.outcome.replied ∙ same.sent ∙ ap (λ (x : Reply). count_reply 8 (encoded frame x)) (sym u.outcome.replied);
      repeated = ap (λ (x : Reply). entry_bytes x.bytes) (o.outcome.replied ∙ same.sent) ∙ same.repeated;
    }

-- where the plain call is refused, and the reply aborts, the very device is left that the request got
pub aborted_very_device : (d r s : Device) (frame : List ℕ) (c : Plain) (a b : Reply) → SameAsPlain frame a b r s → Ensured d (direct c) b s
    → (b.number ≡ 0 → ⊥) → r ≡ d
aborted_very_device d r s frame c a b same u ne = same.device ∙ refused_very_device d s (direct c) b u ne

-- a request that no machine hears leaves the very device that it got
unheard_very_device : (d r : Device) (frame buffer : List ℕ) (a w : Reply) → Normal d → Allowed d → Allowed r
    → Ensured d (request frame buffer) a r → Unheard (machines_of d) frame buffer w → (r ≡ d) × (a ≡ w)
unheard_very_device d r frame buffer a w n p q o u = (
  determined r d q p (o.normal n) n (record { at = λ i j h. o.outcome.machines.at i j h ∙ (λ t. u.machines t i j) }),
  o.outcome.replied ∙ u.answer,
)

-- every request is refused, or gets no reply, or is answered by 05040001, and then leaves the very device and, where it is not answered, the
-- buffer; or it is a plain call
pub every_request : (d r : Device) (frame buffer : List ℕ) (a : Reply) → Normal d → Allowed d → Allowed r
    → Ensured d (request frame buffer) a r → Requested d frame buffer a r
every_request d r frame buffer a n p q o = by (eqb number 0) (silent node frame) refl refl (asked_once frame)
  where
    number : ℕ
    number = request_refusal (length frame) (length buffer)

    node : Node
    node = (machines_of d node_alone 0).node

    others : NoOtherChange (machines_of d) frame buffer
    others = no_other_change (machines_of d) frame buffer

    by : (t u : Bool) → eqb number 0 ≡ t → silent node frame ≡ u → Asked (asked frame) → Requested d frame buffer a r
    by false u e f k =
        let ne = eqb-false number 0 e in
        let w = unheard_very_device d r frame buffer a _ n p q o (others.refused ne) in refused number refl ne w.1 w.0
    by true true e f k =
        let z = eqb-true number 0 e in
        let w = unheard_very_device d r frame buffer a _ n p q o (others.unanswered z f) in unanswered z f w.1 w.0
    by true false e f (none is) =
        let z = eqb-true number 0 e in
        let w = unheard_very_device d r frame buffer a _ n p q o (others.unknown z f is) in unknown z f is w.1 w.0
    by true false e f (one c is) =
        let z = eqb-true number 0 e in
        let eight = eight_bytes (length frame) (length buffer) z in
        let running = (neither (stopped node) (aborts frame) f).0 in
        plain_call c z f is (λ b s v u. request_as_plain d n frame buffer c eight.0 eight.1 running is a b r s q v o u)

-- ---- after any list of calls

module _ (number : ℕ) (answer : Result (Unit {0}) Refusal) (created : Device) (made : CreatedAs number answer created)
    (cs : List Call) (rs : List Reply) (d : Device) (run : Run Ensured created cs rs d) (p : Allowed d) where
  counted : (m : ℕ) → m < 8 → (machines_of d mapping m).own.count ≤ 8
  counted m h =
      let same = (every_list_of_calls number answer created made cs rs d run).machines.at mapping m h in
      omega (arith, ap (λ (x : Machine mapping). x.own.count) same, (mapping_sound (created_number number) cs m).count_small)

  -- "A read answers the entry's bytes as an unsigned number and their count": the number fits them
  pub read_fits : ReadsFit (machines_of d)
  read_fits = reads_fit (machines_of d) (device_held d p counted)

  -- what a client reads in the reply is the plain call's whole reply
  pub reply_decoded : (frame : List ℕ) (c : Plain) → length frame ≡ 8 → asked frame ≡ c ∷ [] → (a b : Reply) (r s : Device)
      → SameAsPlain frame a b r s → Ensured d (direct c) b s → decoded a.bytes ≡ b
  reply_decoded frame c l asks a b r s same u =
      let answered = u.outcome.replied in
      ap (λ (x : Reply). decoded x.bytes) same.sent ∙ ap (λ (x : Reply). decoded (encoded frame x)) answered
      ∙ sent_back (machines_of d) read_fits frame c l asks ∙ sym answered
