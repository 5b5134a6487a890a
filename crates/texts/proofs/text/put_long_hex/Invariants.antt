-- `text::put_long_hex` meets its contract, a byte after the other.
-- Assumes nothing.
use mathlib.Core.Path.{◌≡◌}
use lib.ListN.{take}
use Rattle.words.specs.Buffers.{put}
use Rattle.texts.specs.Texts.{each_text, hex_text}
use Rattle.texts.proofs.text.put_long_hex.Given as goal

abbrev pub invariant-loop-byte : goal.invariant-loop-byte
invariant-loop-byte g l =
    g.B.Buffer.held l.out
    ≡ put g.B.Buffer.most (g.B.Buffer.held l.initial.out) (each_text hex_text (take l.byte-index l.byte-items))
