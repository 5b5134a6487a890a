-- Document 02, Item 3: what each first byte asks, and the bytes of each reply, in numbers.
-- Assumes nothing.
use mathlib.Core.Path.{◌≡◌, refl, ap, ap₂, ◌∙◌}
use mathlib.Core.Bool.{Bool, true, false, cond, ◌&&◌}
use mathlib.Core.List.{List, [], ◌∷◌, ◌++◌}
use Prim.Native.Nat.{ℕ, ◌+◌, ◌*◌, ◌-◌, ◌/◌, ◌%◌, ◌≤◌, ◌<◌}
use native.Mathlib.Omega.{arith}
use lib.Dec.{eqb}
use lib.ListN.{length, take}
use lib.Seq.{take_at}
use borrow.Author.Tests.{eq-eqb, ne_eqb}
use Rattle.profile.specs.Bits.{bit_at, gather}
use Rattle.profile.specs.Entries.{object_of, entry_of}
use Rattle.profile.specs.declared.Home.TheVariants.{Sources}
use Rattle.profile.specs.Nodes.{stopped}
use Rattle.profile.specs.Calls.{read, write, direct}
use Rattle.profile.specs.Refusals.{refusal, read_refusal}
use Rattle.profile.specs.Machines.{Kind, node_alone, analogue_input, Machine, step}
use Rattle.profile.specs.Heard.{Machines, number_of}
use Rattle.profile.specs.Replies.{read_value, read_reply, count_reply, reply}
use Rattle.profile.specs.Server.{command_of, unused_of, is_expedited, tells_size, first_byte, told_size}
use Rattle.profile.specs.Server.{index_in, data_in, size_in, asks_upload, asked, encoded}
use Rattle.profile.specs.ServerClaims.{framed, AskedBy, AbortsBy, ReplyBytes, SourcesUploaded}
use Rattle.profile.proofs.StepLaws.{read_step}
use Rattle.profile.proofs.ReadLaws.{read_replies}
use Rattle.profile.proofs.ServerLaws.{upload_asks, download_asks, unknown_asks, as_plain}

-- ---- the fields of a first byte, by its number

command_is : (k first : ℕ) → 32 * k ≤ first → first < 32 * k + 32 → k < 8 → command_of first ≡ k
unfolding command_of
command_is k first h l m = omega arith

command_not : (k first : ℕ) → (first / 32 % 8 ≡ k → ⊥) → eqb (command_of first) k ≡ false
unfolding command_of
command_not k first ne = ne_eqb (first / 32 % 8) k ne

expedited_is : (first : ℕ) → first / 2 % 2 ≡ 1 → is_expedited first ≡ true
unfolding is_expedited bit_at
expedited_is first e = eq-eqb (first / 2 % 2) 1 e

expedited_not : (first : ℕ) → first / 2 % 2 ≡ 0 → is_expedited first ≡ false
unfolding is_expedited bit_at
expedited_not first e = ap (λ (x : ℕ). eqb x 1) e

told_is : (first : ℕ) → first % 2 ≡ 1 → tells_size first ≡ true
unfolding tells_size bit_at
told_is first e = eq-eqb (first / 1 % 2) 1 (omega (arith, e))

told_not : (first : ℕ) → first % 2 ≡ 0 → tells_size first ≡ false
unfolding tells_size bit_at
told_not first e = ne_eqb (first / 1 % 2) 1 (λ q. omega (arith, e, q))

told_size_lem : (first size : ℕ) → size ≤ 4 → first / 4 % 4 ≡ 4 - size → told_size first ≡ size
unfolding unused_of
told_size_lem first size h e = omega (arith, e)

-- ---- what each first byte asks

module _ (index sub : ℕ) where
  -- "Data is least significant byte first"
  index_back : (first : ℕ) (rest : List ℕ) → index_in (framed first index sub rest) ≡ index
  index_back first rest = omega arith

  -- "A download that doesn't tell its size has the entry's own."
  size_by : (first : ℕ) (rest : List ℕ) (t : Bool) → tells_size first ≡ t
      → size_in (framed first index sub rest) ≡ cond t (told_size first) (entry_of index sub).size
  size_by first rest t e = ap₂ (λ (b : Bool) (x : ℕ). cond b (told_size first) (entry_of x sub).size) e (index_back first rest)

  downloads : (first size : ℕ) (payload spare : List ℕ) → command_of first ≡ 1 → is_expedited first ≡ true
      → size_in (framed first index sub (payload ++ spare)) ≡ size → length payload ≡ size
      → asked (framed first index sub (payload ++ spare)) ≡ write index sub payload ∷ []
  downloads first size payload spare is e s l =
      let f = framed first index sub (payload ++ spare) in
      let held : data_in (size_in f) f ≡ payload =
      ap (λ (n : ℕ). take n (payload ++ spare)) s ∙ take_at payload spare size l in
      let back = index_back first (payload ++ spare) in
      download_asks f (ap (λ (x : ℕ). eqb x 2) is) (ap₂ (λ (x : ℕ) (b : Bool). eqb x 1 && b) is e)
      ∙ (λ t. write (back t) sub (held t) ∷ [])

  nothing : (first : ℕ) (rest : List ℕ) → eqb (command_of first) 2 ≡ false → eqb (command_of first) 1 && is_expedited first ≡ false
      → asked (framed first index sub rest) ≡ []
  nothing first rest u d = unknown_asks (framed first index sub rest) u d

  uploads : (first : ℕ) (rest : List ℕ) → 0x40 ≤ first → first < 0x60 → asks_upload (framed first index sub rest) ≡ true
  uploads first rest h l = ap (λ (x : ℕ). eqb x 2) (command_is 2 first h (omega arith) (omega arith))

  -- by its command alone
  other : (first : ℕ) (rest : List ℕ) → (first / 32 % 8 ≡ 1 → ⊥) → (first / 32 % 8 ≡ 2 → ⊥) → asked (framed first index sub rest) ≡ []
  other first rest d u =
      nothing first rest (command_not 2 first u) (ap (λ (b : Bool). b && is_expedited first) (command_not 1 first d))

  -- "expedited download and upload as in CiA 301"; "Reserved bits aren't read"
  pub asked_by : AskedBy index sub
  asked_by =
      record {
        upload = λ first rest h l.
            upload_asks (framed first index sub rest) (uploads first rest h l)
            ∙ ap (λ (x : ℕ). read x sub ∷ []) (index_back first rest);
        told = λ size reserved payload spare h k r l.
            let first = 0x23 + 4 * (4 - size) + 16 * reserved in
            downloads first size payload spare (command_is 1 first (omega arith) (omega arith) (omega arith))
            (expedited_is first (omega arith))
            (size_by first (payload ++ spare) true (told_is first (omega arith)) ∙ told_size_lem first size k (omega arith)) l;
        untold = λ unread reserved payload spare h r l.
            let first = 0x22 + 4 * unread + 16 * reserved in
            downloads first (entry_of index sub).size payload spare (command_is 1 first (omega arith) (omega arith) (omega arith))
            (expedited_is first (omega arith)) (size_by first (payload ++ spare) false (told_not first (omega arith))) l;
        segmented = λ unread told reserved rest h l r.
            let first = 0x20 + 4 * unread + told + 16 * reserved in
            let is = command_is 1 first (omega arith) (omega arith) (omega arith) in
            nothing first rest (ap (λ (x : ℕ). eqb x 2) is)
            (ap₂ (λ (x : ℕ) (b : Bool). eqb x 1 && b) is (expedited_not first (omega arith)));
        below = λ first rest h. other first rest (λ e. omega (arith, e)) (λ e. omega (arith, e));
        above = λ first rest h l. other first rest (λ e. omega (arith, e)) (λ e. omega (arith, e));
      }

  -- "A client's abort"
  pub aborts_by : AbortsBy index sub
  aborts_by =
      record {
        abort = λ first rest h l. eq-eqb (command_of first) 4 (command_is 4 first h (omega arith) (omega arith));
        below = λ first rest h. command_not 4 first (λ e. omega (arith, e));
        above = λ first rest h l. command_not 4 first (λ e. omega (arith, e));
      }

-- "an upload reply tells its size, spare reply bytes are 0"
pub reply_bytes : (first index sub v : ℕ) (rest : List ℕ) → ReplyBytes first index sub v rest
unfolding first_byte
reply_bytes first index sub v rest =
    record { uploaded_1 = refl; uploaded_2 = refl; uploaded_4 = refl; downloaded = refl; aborted = refl }

-- ---- an upload of 6422:1

sources_read : (ms : Machines) → stopped (ms node_alone 0).node ≡ false
    → reply ms (direct (read 0x6422 1)) ≡ read_reply (gather 16 (λ n. (ms analogue_input n).own.source)) 4
unfolding number_of refusal read_refusal read_value entry_of object_of
sources_read ms running = read_replies ms 0x6422 1 (rw running refl)

sources_cleared : (n : ℕ) (m : Machine analogue_input) → stopped m.node ≡ false
    → (step analogue_input n (read 0x6422 1) m).own.source ≡ false
unfolding refusal read_refusal entry_of object_of
sources_cleared n m running =
    ap (λ (x : Machine analogue_input). x.own.source) (read_step analogue_input n 0x6422 1 Sources m refl (λ h. rw running refl))

-- "An accepted read of 6422:1 answers the bits, then clears them all.": so does an upload, where every machine knows a node not stopped
pub sources_uploaded : (ms : Machines) → ((k : Kind) (i : ℕ) → stopped (ms k i).node ≡ false) → (first : ℕ) (rest buffer : List ℕ)
    → 0x40 ≤ first → first < 0x60 → length rest ≡ 4 → length buffer ≡ 8 → SourcesUploaded ms (framed first 0x6422 1 rest) buffer
unfolding encoded
sources_uploaded ms running first rest buffer h l k b =
    let frame = framed first 0x6422 1 rest in
    let asks = (asked_by 0x6422 1).upload first rest h l in
    let same = as_plain ms frame buffer (read 0x6422 1) (omega (arith, k)) b (running node_alone 0) asks in
    record {
      sent = same.sent ∙ rw (sources_read ms (running node_alone 0), uploads 0x6422 1 first rest h l)
          (ap (λ (f : List ℕ). count_reply 8 f) (reply_bytes first 0x6422 1 (gather 16 (λ n. (ms analogue_input n).own.source)) rest).uploaded_4);
      cleared = λ n.
          ap (λ (x : Machines). (x analogue_input n).own.source) same.machines
          ∙ sources_cleared n (ms analogue_input n) (running analogue_input n);
    }
