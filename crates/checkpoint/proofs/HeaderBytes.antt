-- Decoding the bytes of a header returns the header.
use Rattle.std.proofs.Common.{◌≡◌, ℕ, ◌^◌, ◌<◌, ◌≤◌, List, ◌++◌, replicate, drop, sym, ◌∙◌, ap, arith}
use Rattle.std.proofs.Math.Nat.{mod-eq_of_lt}
use Rattle.byteorder.specs.Endian.{big_bytes, big_number}
use Rattle.byteorder.specs.Numbers.{big_from-bytes}
use Rattle.state_codec.specs.declared.version.Version.{Version}
use Rattle.state_codec.specs.declared.version.Version.TheVariants.{One, Two}
use Rattle.checkpoint.specs.declared.headers.Header.{Header}
use Rattle.checkpoint.specs.Headers.{header_bytes}
use Rattle.checkpoint.specs.Holds.{layout_of}

pub small_half : (version : Version) → (layout_of version).half ≤ 4096
small_half One = omega arith
small_half Two = omega arith

abbrev header_of : ℕ → ℕ → Header
header_of sequence length = record { sequence = sequence; length = length }

-- the header that these bytes encode, if they are those of a header
abbrev pub read_of : List ℕ → Header
read_of bytes = header_of (big_number 8 (drop 12 bytes)) (big_number 8 (drop 20 bytes))

sequence_of : (version : ℕ) (header : Header) → header.sequence < 2 ^ 64 → big_number 8 (drop 12 (header_bytes version header)) ≡ header.sequence
sequence_of version header fits = big_from-bytes 8 header.sequence (big_bytes 8 header.length ++ replicate 484 0) ∙ mod-eq_of_lt fits

pub read_back : (version : ℕ) (header : Header) → header.sequence < 2 ^ 64 → header.length < 2 ^ 64 → read_of (header_bytes version header) ≡ header
read_back version header fits short =
    ap (λ (n : ℕ). header_of n (big_number 8 (drop 20 (header_bytes version header)))) (sequence_of version header fits)
    ∙ ap (header_of header.sequence) (big_from-bytes 8 header.length (replicate 484 0) ∙ mod-eq_of_lt short)

-- headers with the same bytes are equal
pub same_sequence : (version : ℕ) (a b : Header) → a.sequence < 2 ^ 64 → b.sequence < 2 ^ 64 → header_bytes version a ≡ header_bytes version b → a.sequence ≡ b.sequence
same_sequence version a b fits_a fits_b same = sym (sequence_of version a fits_a) ∙ ap (λ (bytes : List ℕ). big_number 8 (drop 12 bytes)) same ∙ sequence_of version b fits_b
