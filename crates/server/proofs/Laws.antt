-- The reply to a request, and to the plain call that it is.
-- Assumes nothing.
use mathlib.Core.Path.{◌≡◌, refl, sym, ap, ◌∙◌, subst}
use mathlib.Core.Bool.{cond}
use mathlib.Core.List.{List, []}
use Prim.Native.Nat.{ℕ, ◌≤◌}
use lib.Dec.{eqb}
use lib.ListN.{length}
use Rattle.profile.specs.declared.refusals.Refusal.{Refusal}
use Rattle.profile.specs.Numbers.{refusal_number}
use Rattle.profile.specs.Calls.{Plain, read, write, direct, request, Reply}
use Rattle.profile.specs.Refusals.{request_refusal}
use Rattle.profile.specs.Server.{index_in, sub_in, size_in, data_in, asked, abort_reply, encoded}
use Rattle.profile.specs.Machines.{node_alone}
use Rattle.profile.specs.Heard.{Machines, number_of}
use Rattle.profile.specs.Replies.{unchanged, plain_reply, server_frame, server_reply, answer_to, refuse_to, reply, plain}
use Rattle.profile.proofs.AnswerLaws.{nonzero}
use Rattle.profile.proofs.ReplyLaws.{reply_number}
use Rattle.profile.proofs.ReadLaws.{read_sized}
use Rattle.store.specs.declared.Store.{Store}
use Rattle.store.specs.View.{machines_of}
use Rattle.store.specs.Promises.{Ensured}
use Rattle.server.specs.View.{Done}

module _ (ms : Machines) where
  pub to_plain : (c : Plain) → reply ms (direct c) ≡ plain_reply ms c
  unfolding reply number_of answer_to refuse_to
  to_plain c = refl

  pub to_request : (frame buffer : List ℕ) → reply ms (request frame buffer)
      ≡ cond (eqb (request_refusal (length frame) (length buffer)) 0)
      (server_reply (ms node_alone 0).node frame buffer (server_frame ms frame (asked frame)))
      (unchanged (request_refusal (length frame) (length buffer)) buffer [])
  unfolding reply number_of answer_to refuse_to
  to_request frame buffer = refl

-- an accepted read answers one byte to four
pub read_bytes : (d e : Store) (index sub : ℕ) (r : Reply) → Ensured d (direct (read index sub)) r e → r.number ≡ 0
    → (1 ≤ r.size) × (r.size ≤ 4)
read_bytes d e index sub r p z =
    let ms = machines_of d in
    let is = p.outcome.replied in
    let number = sym (reply_number ms (direct (read index sub))) ∙ sym (ap (λ (x : Reply). x.number) is) ∙ z in
    rw is (read_sized ms index sub number)

-- the plain write of a download, refused
pub download_refused : {d e : Store} {frame bytes buffer : List ℕ} {index sub size : ℕ} (r : Refusal) → index ≡ index_in frame
    → sub ≡ sub_in frame → size ≡ size_in frame → bytes ≡ data_in size frame
    → Ensured d (direct (write index sub bytes)) (plain (refusal_number r)) e → buffer ≡ abort_reply frame (refusal_number r)
    → Done d (write (index_in frame) (sub_in frame) (data_in (size_in frame) frame)) frame buffer e
unfolding encoded
download_refused {d} {e} {frame} r i s z b p q =
    let c = write (index_in frame) (sub_in frame) (data_in (size_in frame) frame) in
    let o = rw (i, s, b, z) at p in
    let is = o.outcome.replied in
    record {
      ensured = subst (λ (x : Reply). Ensured d (direct c) x e) is o;
      bytes = q ∙ sym (rw (nonzero r) refl) ∙ ap (encoded frame) is;
    }

-- what the check is told at each function
pub ruleset for_request = (to_request, nonzero)

pub ruleset for_serve = (to_request, to_plain)

pub ruleset for_upload = (read_bytes, nonzero)
