-- The formats of machine instructions: how long they are, and what their operands are. This project's profile of the
-- z/Architecture Principles of Operation SA22-7832.
use Rattle.std.specs.Prelude.{ℕ, List, take, drop}
use Rattle.instruction_table.specs.declared.encodings.Encoding.{Encoding}
use Rattle.instruction_table.specs.declared.encodings.Encoding.TheVariants.{Rr, I, E, Rx, Rs, Si, S, Ri, Ril, Rre, Rxy, Rsy, Ss, Ie, Mii, Rie, Ris, Rrd, Rrf, Rrs, Rsi, Rsl, Rxe, Rxf, Sil, Siy, Smi, Sse, Ssf, Vri, Vrr, Vrs, Vrv, Vrx, Vsi}
use Rattle.instruction_table.specs.declared.format.Format.{Format}
use Rattle.instruction_table.specs.declared.encodings.Kind.{Kind}
use Rattle.instruction_table.specs.declared.rows.TheConstants.{KINDS}

-- the bytes of an instruction: RR, I and E 2; RX, RS, RSI, SI, S, RI, RRE, RRF, RRD and IE 4; all others 6
abbrev pub size_of : Encoding → ℕ
size_of Rr = 2
size_of I = 2
size_of E = 2
size_of Rx = 4
size_of Rs = 4
size_of Si = 4
size_of S = 4
size_of Ri = 4
size_of Ril = 6
size_of Rre = 4
size_of Rxy = 6
size_of Rsy = 6
size_of Ss = 6
size_of Ie = 4
size_of Mii = 6
size_of Rie = 6
size_of Ris = 6
size_of Rrd = 4
size_of Rrf = 4
size_of Rrs = 6
size_of Rsi = 4
size_of Rsl = 6
size_of Rxe = 6
size_of Rxf = 6
size_of Sil = 6
size_of Siy = 6
size_of Smi = 6
size_of Sse = 6
size_of Ssf = 6
size_of Vri = 6
size_of Vrr = 6
size_of Vrs = 6
size_of Vrv = 6
size_of Vrx = 6
size_of Vsi = 6

-- how an instruction is laid out
abbrev pub encoding_of : Format → Encoding
encoding_of format = format.encoding

-- how many bytes it takes
abbrev pub length_of : Format → ℕ
length_of format = size_of format.encoding

-- what its operands are, in order: as many kinds as it has, from its place on
abbrev pub operands_of : Format → List Kind
operands_of format = take format.count (drop format.first KINDS)

-- how many of the last may be left out
abbrev pub optional_of : Format → ℕ
optional_of format = format.optional
