-- Document 02, Item 3: a request is the plain call that it asks for, its reply decoded is the plain reply, and no request does more.
-- Assumes nothing.
use mathlib.Core.Path.{◌≡◌, refl, ap, ◌∙◌}
use mathlib.Core.Bool.{Bool, true, false, not, cond}
use mathlib.Core.List.{List, [], ◌∷◌}
use Prim.Native.Nat.{ℕ, ◌^◌, ◌<◌}
use native.Mathlib.Omega.{arith}
use lib.Dec.{eqb}
use lib.ListN.{length, drop, length-drop}
use lib.Seq.{length-take-le}
use borrow.Author.Tests.{eqb-true, eqb-false, ne_eqb}
use Rattle.profile.specs.Nodes.{stopped}
use Rattle.profile.specs.Entries.{entry_of}
use Rattle.profile.specs.Calls.{Plain, read, write, direct, request}
use Rattle.profile.specs.Refusals.{first, ◌⇒◌, request_refusal}
use Rattle.profile.specs.Server.{command_of, tells_size, told_size, first_of, index_in, sub_in, data_in}
use Rattle.profile.specs.Server.{asks_download, asks_upload, aborts, size_in, asked, encoded}
use Rattle.profile.specs.Machines.{node_alone}
use Rattle.profile.specs.Heard.{Machines, step_each, conditions, number_of, served, step_all}
use Rattle.profile.specs.Replies.{plain, count_reply, server_frame, silent, answer, answer_to, refuse, refuse_to, reply}
use Rattle.profile.specs.ServerClaims.{decoded, ReadsFit, AsPlain, NoOtherChange}
use Rattle.profile.proofs.ReplyLaws.{reply_number}
use Rattle.profile.proofs.StepLaws.{cond_same}
use Rattle.profile.proofs.SizeLaws.{entry_sized}
use Rattle.profile.proofs.ReadLaws.{read_replies}
use Rattle.profile.proofs.NumberLaws.{Other, read_number_lem, write_number, read_code, write_code, others}
use Rattle.profile.proofs.DecodeLaws.{Sent, sent_decoded, encoded_repeats}
use Rattle.profile.proofs.DecodeLaws.Sent.{refused, uploaded, downloaded}

-- ---- a request is the plain call

-- what a request asks, by its first byte
data Asks (frame : List ℕ) : Type 0 where
  upload : asks_upload frame ≡ true → asked frame ≡ read (index_in frame) (sub_in frame) ∷ [] → Asks frame
  download : asks_upload frame ≡ false → asked frame ≡ write (index_in frame) (sub_in frame) (data_in (size_in frame) frame) ∷ [] → Asks frame
  nothing : asked frame ≡ [] → Asks frame

-- an upload asks for the plain read, an expedited download for the plain write, anything else for nothing
pub upload_asks : (frame : List ℕ) → asks_upload frame ≡ true → asked frame ≡ read (index_in frame) (sub_in frame) ∷ []
unfolding asked
upload_asks frame u = rw u refl

pub download_asks : (frame : List ℕ) → asks_upload frame ≡ false → asks_download frame ≡ true
    → asked frame ≡ write (index_in frame) (sub_in frame) (data_in (size_in frame) frame) ∷ []
unfolding asked
download_asks frame u d = rw (u, d) refl

pub unknown_asks : (frame : List ℕ) → asks_upload frame ≡ false → asks_download frame ≡ false → asked frame ≡ []
unfolding asked
unknown_asks frame u d = rw (u, d) refl

asks : (frame : List ℕ) → Asks frame
asks frame = by (asks_upload frame) (asks_download frame) refl refl
  where
    by : (u d : Bool) → asks_upload frame ≡ u → asks_download frame ≡ d → Asks frame
    by true d e f = upload e (upload_asks frame e)
    by false true e f = download e (download_asks frame e f)
    by false false e f = nothing (unknown_asks frame e f)

-- a list of one plain call or of none
pub data Asked (cs : List Plain) : Type 0 where
  none : cs ≡ [] → Asked cs
  one : (c : Plain) → cs ≡ c ∷ [] → Asked cs

-- "A request does exactly what the plain call does": it asks for one, or for none
pub asked_once : (frame : List ℕ) → Asked (asked frame)
asked_once frame = by (asks frame)
  where
    by : Asks frame → Asked (asked frame)
    by (upload u is) = one _ is
    by (download u is) = one _ is
    by (nothing is) = none is

-- a client's abort asks for nothing
asked_aborted : (frame : List ℕ) → aborts frame ≡ true → asked frame ≡ []
unfolding asked
asked_aborted frame e = rw (eqb-true (command_of (first_of frame)) 4 e) refl

no_abort : (frame : List ℕ) (c : Plain) → asked frame ≡ c ∷ [] → aborts frame ≡ false
no_abort frame c a = by (aborts frame) refl
  where
    by : (t : Bool) → aborts frame ≡ t → t ≡ false
    by true e = let none = asked_aborted frame e in let z : ◌≡◌ {A = ℕ} 0 1 = cc in absurd (omega arith)
    by false e = refl

module _ (ms : Machines) (frame buffer : List ℕ) (c : Plain) (l : length frame ≡ 8) (k : length buffer ≡ 8)
    (running : stopped (ms node_alone 0).node ≡ false) (a : asked frame ≡ c ∷ []) where
  serving : served (ms node_alone 0).node frame buffer ≡ true
  unfolding request_refusal
  serving = rw (l, k, running) refl

  pub served_reply : reply ms (request frame buffer) ≡ count_reply 8 (encoded frame (reply ms (direct c)))
  unfolding reply number_of request_refusal answer_to refuse_to
  served_reply =
      let quiet : silent (ms node_alone 0).node frame ≡ false = rw (running, no_abort frame c a) in
      rw (l, k)
      (ap (λ (b : Bool). cond b (count_reply 0 buffer) (count_reply 8 (server_frame ms frame (asked frame)))) quiet
      ∙ ap (λ (cs : List Plain). count_reply 8 (server_frame ms frame cs)) a)

  pub served_machines : step_all (request frame buffer) ms ≡ step_all (direct c) ms
  served_machines =
      ap (λ (b : Bool). step_each (cond b (asked frame) []) ms) serving ∙ ap (λ (cs : List Plain). step_each cs ms) a

  -- "A request does exactly what the plain call does, for the machines too"
  pub as_plain : AsPlain ms frame buffer c
  as_plain = record { machines = served_machines; sent = served_reply; repeated = encoded_repeats frame (reply ms (direct c)) l }

-- the reply of the plain call is one that a server sends on
plain_sent : (ms : Machines) (frame : List ℕ) (c : Plain) (n : ℕ) → number_of ms (direct c) ≡ n → n < 256 ^ 4 → refuse n c ≡ plain n
    → (n ≡ 0 → Sent frame (reply ms (direct c))) → Sent frame (reply ms (direct c))
unfolding reply refuse_to
plain_sent ms frame c n is small refuses taken = by (eqb n 0) refl
  where
    by : (t : Bool) → eqb n 0 ≡ t → Sent frame (reply ms (direct c))
    by true e = taken (eqb-true n 0 e)
    by false e = refused n (eqb-false n 0 e) small (rw (is, e) refuses)

upload_sent : (ms : Machines) → ReadsFit ms → (frame : List ℕ) → asks_upload frame ≡ true → (index sub : ℕ)
    → Sent frame (reply ms (direct (read index sub)))
unfolding number_of refuse
upload_sent ms fit frame u index sub =
    let c = read index sub in
    plain_sent ms frame c (number_of ms (direct c)) refl (read_code (conditions ms c) index sub) refl
    (λ z. let is = read_replies ms index sub z in uploaded _ _ u (rw is at (fit index sub (reply_number ms (direct c) ∙ z))) is)

download_sent : (ms : Machines) (frame : List ℕ) → asks_upload frame ≡ false → (index sub : ℕ) (payload : List ℕ)
    → Sent frame (reply ms (direct (write index sub payload)))
unfolding reply number_of answer_to answer refuse
download_sent ms frame u index sub payload =
    let c = write index sub payload in
    plain_sent ms frame c (number_of ms (direct c)) refl (write_code (conditions ms c) index sub payload) refl (λ z. downloaded u (rw z))

-- what a client reads in the reply is the plain call's whole reply, where what a read answers fits its bytes
pub sent_back : (ms : Machines) → ReadsFit ms → (frame : List ℕ) (c : Plain) → length frame ≡ 8 → asked frame ≡ c ∷ []
    → decoded (encoded frame (reply ms (direct c))) ≡ reply ms (direct c)
sent_back ms fit frame c l a = sent_decoded frame (reply ms (direct c)) l (by (asks frame))
  where
    by : Asks frame → Sent frame (reply ms (direct c))
    by (upload u is) =
        let called : c ≡ read (index_in frame) (sub_in frame) = cc in
        rw called (upload_sent ms fit frame u (index_in frame) (sub_in frame))
    by (download u is) =
        let called : c ≡ write (index_in frame) (sub_in frame) (data_in (size_in frame) frame) = cc in
        rw called (download_sent ms frame u (index_in frame) (sub_in frame) (data_in (size_in frame) frame))
    by (nothing is) = let z : ◌≡◌ {A = ℕ} 0 1 = cc in absurd (omega arith)

-- ---- and a request does nothing else

-- "A client's abort, or any request while stopped": no machine hears it
silent_machines : (ms : Machines) (frame buffer : List ℕ) → request_refusal (length frame) (length buffer) ≡ 0
    → silent (ms node_alone 0).node frame ≡ true → step_all (request frame buffer) ms ≡ ms
silent_machines ms frame buffer z e = by (stopped (ms node_alone 0).node) refl
  where
    by : (t : Bool) → stopped (ms node_alone 0).node ≡ t → step_all (request frame buffer) ms ≡ ms
    by true s = rw (z, s) refl
    by false s = rw (asked_aborted frame (rw s at e), cond_same) refl

-- "gets no reply and leaves the buffer", or is refused by its number, or answered by "an abort reply with 05040001"
pub no_other_change : (ms : Machines) (frame buffer : List ℕ) → NoOtherChange ms frame buffer
unfolding reply number_of answer_to refuse_to
no_other_change ms frame buffer =
    let n = request_refusal (length frame) (length buffer) in
    record {
      refused = λ ne. let e = ne_eqb n 0 ne in record { machines = rw e refl; answer = rw e refl };
      unanswered = λ z e. record { machines = silent_machines ms frame buffer z e; answer = rw (z, e) refl };
      unknown = λ z e none. record { machines = rw (none, cond_same) refl; answer = rw (z, e, none) refl };
    }

-- a request that is not refused, and its reply buffer, have eight bytes
pub eight_bytes : (frame buffer : ℕ) → request_refusal frame buffer ≡ 0 → (frame ≡ 8) × (buffer ≡ 8)
unfolding request_refusal
eight_bytes frame buffer z = by (eqb frame 8) (eqb buffer 8) refl refl z
  where
    by : (t u : Bool) → eqb frame 8 ≡ t → eqb buffer 8 ≡ u → first ((not t ⇒ 7) ∷ (not u ⇒ 5) ∷ []) ≡ 0 → (frame ≡ 8) × (buffer ≡ 8)
    by true true e f z = (eqb-true frame 8 e, eqb-true buffer 8 f)
    by true false e f z = absurd (omega (arith, z))
    by false u e f z = absurd (omega (arith, z))

-- ---- numbers that no reply has

read_other : (ms : Machines) (index sub : ℕ)
    → Other (stopped (ms node_alone 0).node) (entry_of index sub).size 0 (number_of ms (direct (read index sub)))
unfolding number_of
read_other ms index sub =
    let still = stopped (ms node_alone 0).node in
    let size = (entry_of index sub).size in
    read_number_lem (Other still size 0) (conditions ms (read index sub)) index sub 0 (others still size 0)

write_other : (ms : Machines) (index sub : ℕ) (payload : List ℕ)
    → Other (stopped (ms node_alone 0).node) (entry_of index sub).size (length payload) (number_of ms (direct (write index sub payload)))
unfolding number_of
write_other ms index sub payload =
    let still = stopped (ms node_alone 0).node in
    let size = (entry_of index sub).size in
    let c = write index sub payload in
    write_number (Other still size (length payload)) (conditions ms c) index sub payload (others still size (length payload))

-- "any request while stopped, gets no reply": 08000022 stands in none
pub never_stopped : (ms : Machines) (frame : List ℕ) (c : Plain) → asked frame ≡ c ∷ [] → stopped (ms node_alone 0).node ≡ false
    → number_of ms (direct c) ≡ 0x08000022 → ⊥
never_stopped ms frame c a running = by (asks frame)
  where
    by : Asks frame → number_of ms (direct c) ≡ 0x08000022 → ⊥
    by (upload u is) =
        let called : c ≡ read (index_in frame) (sub_in frame) = cc in
        rw called ((read_other ms (index_in frame) (sub_in frame)).not_stopped running)
    by (download u is) =
        let called : c ≡ write (index_in frame) (sub_in frame) (data_in (size_in frame) frame) = cc in
        rw called ((write_other ms (index_in frame) (sub_in frame) (data_in (size_in frame) frame)).not_stopped running)
    by (nothing is) = let z : ◌≡◌ {A = ℕ} 0 1 = cc in absurd (omega arith)

-- what the plain write of a download that tells no size answers
abbrev pub untold_number : Machines → List ℕ → ℕ
untold_number ms frame = number_of ms (direct (write (index_in frame) (sub_in frame) (data_in (size_in frame) frame)))

-- "A download that doesn't tell its size has the entry's own": neither 06070012 nor 06070013 refuses it
pub never_of_size : (ms : Machines) (frame : List ℕ) → length frame ≡ 8 → tells_size (first_of frame) ≡ false
    → (untold_number ms frame ≡ 0x06070012 → ⊥) × (untold_number ms frame ≡ 0x06070013 → ⊥)
never_of_size ms frame l untold =
    let size = (entry_of (index_in frame) (sub_in frame)).size in
    let own : size_in frame ≡ size = ap (λ (b : Bool). cond b (told_size (first_of frame)) size) untold in
    let most = (entry_sized (index_in frame) (sub_in frame)).most in
    let long : length (data_in (size_in frame) frame) ≡ size =
    ap (λ (k : ℕ). length (data_in k frame)) own ∙ length-take-le size (drop 4 frame) (rw length-drop (omega (arith, most, l))) in
    let n = write_other ms (index_in frame) (sub_in frame) (data_in (size_in frame) frame) in (n.not_long long, n.not_short long)
