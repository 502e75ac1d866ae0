-- The bodies of document 01's kinds: what the bytes of each mean.
use Rattle.std.specs.Prelude.{ℕ, Bool, true, ◌&&◌, ◌||◌, cond, List, [], ◌∷◌, leb, eqb, get_or, Ok, Err}
use Rattle.little_endian.specs.Number.{is_zero, number_at}
use Rattle.event.specs.declared.Address.{Address}
use Rattle.event.specs.declared.Address.TheVariants.{Global, Shared}
use Rattle.event.specs.declared.Cache.{Cache}
use Rattle.event.specs.declared.Cache.TheVariants.{Ca, Cg}
use Rattle.event.specs.declared.ElementType.{ElementType}
use Rattle.event.specs.declared.ElementType.TheVariants.{B32}
use Rattle.event.specs.declared.Event.{Event}
use Rattle.event.specs.declared.Event.TheVariants.{Load, Store, Copy, Wait, BulkCopy, BulkReduction, BulkWait}
use Rattle.decoder.specs.Item.{Item}
use Rattle.decoder.specs.declared.Undecoded.TheVariants.{FieldNotAllowed}
use Rattle.event.specs.declared.Mode.{Mode}
use Rattle.event.specs.declared.Mode.TheVariants.{Plain, SourceSize, SourceIgnored}
use Rattle.event.specs.declared.Operation.{Operation}
use Rattle.event.specs.declared.Operation.TheVariants.{And}
use Rattle.event.specs.Fields.{allowed}
use Rattle.event.specs.Meaning as meaning
use Rattle.event.specs.Addresses.{global, shared}

abbrev pub byte_at : List ℕ → ℕ → ℕ
byte_at body i = get_or body i 0

-- The event of a body whose every byte has a meaning, where its fields are allowed.
unfoldable pub checked : Bool → Event → Item
checked meant event = cond (meant && allowed event) (Ok event) (Err FieldNotAllowed)

-- Load, 8 bytes: space (0 global, 1 shared), size, two zeros, address (4).
abbrev pub address_in : List ℕ → Address
address_in body = cond (is_zero (byte_at body 0)) (Global (global (number_at 4 body 4))) (Shared (shared (number_at 4 body 4)))

abbrev pub thread_meant : List ℕ → Bool
thread_meant body = leb (byte_at body 0) 1 && is_zero (byte_at body 2) && is_zero (byte_at body 3)

abbrev pub load_in : List ℕ → Item
load_in body = checked (thread_meant body) (Load (address_in body) (byte_at body 1))

-- Store, 24: as load, then 16 value bytes.
abbrev pub store_in : List ℕ → Item
store_in body =
    checked (thread_meant body) (Store (address_in body) (byte_at body 1) (number_at 8 body 8) (number_at 8 body 16))

-- Copy, 16: dst (4), src (4), src-size (4), cp-size, mode, cache, zero.
-- Mode 0 plain, 1 src-size given, 2 source ignored; cache 0 (.ca) or 1 (.cg).
unfoldable pub mode_of : ℕ → ℕ → Mode
mode_of mode src_size = get_or (Plain ∷ SourceSize src_size ∷ []) mode SourceIgnored

abbrev pub cache_of : ℕ → Cache
cache_of cache = cond (is_zero cache) Ca Cg

-- In modes 0 and 2 the src-size field is zero.
abbrev pub copy_meant : List ℕ → Bool
copy_meant body =
    leb (byte_at body 13) 2
    && (eqb (byte_at body 13) 1 || is_zero (number_at 4 body 8))
    && leb (byte_at body 14) 1
    && is_zero (byte_at body 15)

abbrev pub copy_in : List ℕ → Item
copy_in body =
    checked (copy_meant body)
    (Copy (shared (number_at 4 body 0)) (global (number_at 4 body 4)) (byte_at body 12)
    (mode_of (byte_at body 13) (number_at 4 body 8))
    (cache_of (byte_at body 14)))

-- Bulk copy, 12: dst, src, size.
abbrev pub bulk_copy_in : List ℕ → Item
bulk_copy_in body =
    checked true (BulkCopy (global (number_at 4 body 0)) (shared (number_at 4 body 4)) (number_at 4 body 8))

-- Bulk reduction, 16: dst, src, size, operation, type, two zeros. A number past either list has no meaning (`reduction_meant`).
abbrev pub operations : List Operation
operations = meaning.operations

abbrev pub types : List ElementType
types = meaning.types

abbrev pub reduction_meant : List ℕ → Bool
reduction_meant body = leb (byte_at body 12) 5 && leb (byte_at body 13) 2 && is_zero (byte_at body 14) && is_zero (byte_at body 15)

abbrev pub bulk_reduction_in : List ℕ → Item
bulk_reduction_in body =
    checked (reduction_meant body)
    (BulkReduction (global (number_at 4 body 0)) (shared (number_at 4 body 4)) (number_at 4 body 8)
    (get_or operations (byte_at body 12) And)
    (get_or types (byte_at body 13) B32))

-- Wait and bulk wait, 4: N, any 32-bit number.
abbrev pub wait_in : List ℕ → Item
wait_in body = Ok (Wait (number_at 4 body 0))

abbrev pub bulk_wait_in : List ℕ → Item
bulk_wait_in body = Ok (BulkWait (number_at 4 body 0))
