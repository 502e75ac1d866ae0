-- What holds of the decoder. Each statement is a type; proofs/Theorems.antt proves it, as `decodes_its_body : DecodesItsBody`.
use Rattle.std.specs.Prelude.{ℕ, ◌<◌, ◌≡◌, true, false, List, length, Ok, Err}
use Rattle.answer.specs.Numbers.{four, numbers_of}
use Rattle.little_endian.specs.Number.{Bytes}
use Rattle.event.specs.declared.Event.{Event}
use Rattle.event.specs.Fields.{allowed}
use Rattle.decoder.specs.declared.Undecoded.TheVariants.{UnknownKind, WrongBodyLength, FieldNotAllowed}
use Rattle.decoder.specs.Kinds.{in_ranges, decode_of, refusal_of, overlong}
use Rattle.decoder.specs.Encoding.{kind_of, body_of, Fits}

-- Kinds 1 to 2, 16 to 19 and 32 to 35 are known; any other is unknown.
unfoldable pub KindsInRanges : Type 0
KindsInRanges =
    (kind : ℕ) (body : List ℕ)
    → (in_ranges kind ≡ false → decode_of kind body ≡ Err UnknownKind)
    × (decode_of kind body ≡ (Err UnknownKind) → in_ranges kind ≡ false)

-- The decoder is not too strict: the body of an event whose fields are allowed decodes as that event.
unfoldable pub DecodesItsBody : Type 0
DecodesItsBody = (e : Event) → Fits e → allowed e ≡ true → decode_of (kind_of e) (body_of e) ≡ Ok e

-- Nor too lax: bytes that decode as an event are that event's body, and its fields are allowed.
unfoldable pub OneBody : Type 0
OneBody =
    (kind : ℕ) (body : List ℕ) (e : Event) → Bytes body → decode_of kind body ≡ Ok e
    → (kind_of e ≡ kind) × (body_of e ≡ body) × (allowed e ≡ true) × Fits e

-- Document 01's code and event for an item that does not decode.
unfoldable pub RefusalNumbers : Type 0
RefusalNumbers =
    (i : ℕ)
    → (numbers_of (refusal_of i (Err UnknownKind)) ≡ four 5 i 0 0)
    × (numbers_of (refusal_of i (Err WrongBodyLength)) ≡ four 6 i 0 0)
    × (numbers_of (refusal_of i (Err FieldNotAllowed)) ≡ four 7 i 0 0)

-- No kind has a body of more than 24 bytes: whatever they are, a longer one is refused.
unfoldable pub OverlongBody : Type 0
OverlongBody = (kind : ℕ) (body : List ℕ) → 24 < length body → decode_of kind body ≡ overlong kind
