use Rattle.std.proofs.Common.{◌≡◌, ◌<◌, ◌++◌, drop}
use Rattle.x25_bits.specs.code.Prefix.{IsPrefix}
use Rattle.x25_bits.specs.FrameCheck.{bits_of}
use Rattle.x25_bits.specs.Stuffing.{stuffed_from}
use Rattle.x25_bits.proofs.stuffing.put_stuffed.Given as goal

abbrev pub invariant-loop-octet : goal.invariant-loop-octet
invariant-loop-octet l = record {
  few : l.run < 5;
  begins : IsPrefix l.initial.bits l.bits;
  same : l.bits ++ stuffed_from l.run (bits_of (drop l.octet-index l.octets)) ≡ l.initial.bits ++ stuffed_from 0 (bits_of l.octets);
}
