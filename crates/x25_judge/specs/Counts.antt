-- How many frames and packets of an end were seen, how many of them were judged, and what was told (profile).
use Rattle.std.specs.Prelude.{ℕ, ◌+◌, ◌-◌, ◌%◌, ◌==◌, Bool, not, ◌||◌, if◌then◌else◌, min, List, [], ◌++◌, codes}
use Rattle.std.specs.Prelude.{decimal}
use Rattle.std.specs.{Prelude.{replicate, slice_index_or, slice_set}, List.{flat_map}}
use Rattle.x25_bits.specs.declared.{role.Role.{Role}, role.Role.TheVariants.{Dte, Dce}}
use Rattle.x25_judge.specs.declared.{counts.Count.{Count}, counts.Line.{Line}, counts.Tally.{Tally}}
use Rattle.x25_judge.specs.declared.counts.Line.TheVariants.{Frames, Nothing, Packets, Told, Unjudged}

abbrev pub none : Count
none = record { channel = 0; seen = 0; judged = 0 }

-- one more; 2^64 - 1 stand for that many or more
abbrev pub grown : ℕ → ℕ
grown count = min (count + 1) 18446744073709551615

abbrev pub more : ℕ → Bool → Count → Count
more channel is_judged c = record {
  channel = channel;
  seen = grown c.seen;
  judged = if is_judged then grown c.judged
      else c.judged;
}

-- of each of the channels 0 to 4,095
unfoldable pub no_counts : List Count
no_counts = replicate 4096 none

abbrev pub counted : ℕ → Bool → List Count → List Count
counted channel is_judged counts = slice_set counts (channel % 4096)
    (more channel is_judged (slice_index_or counts (channel % 4096) none))

-- one more of each that is broken, or one more that is in doubt
abbrev pub tallied : Bool → Bool → Bool → Tally → Tally
tallied in_doubt is_rule is_manners t = if in_doubt then record t { doubts = grown t.doubts } else record {
  rules = if is_rule then grown t.rules else t.rules;
  manners = if is_manners then grown t.manners else t.manners;
  doubts = t.doubts;
}

-- ---- text

abbrev pub counted_text : Count → List ℕ → List ℕ
counted_text c what = decimal c.seen ++ what ++ decimal c.judged ++ codes " judged, "
    ++ decimal (c.seen - c.judged) ++ codes " not judged\n"

-- why none was judged
abbrev pub why_of : Role → List ℕ
why_of Dte = codes "# no frame of dte is judged: the trace shows no set-up\n"
why_of Dce = codes "# no frame of dce is judged: the trace shows no set-up\n"

abbrev pub why_line : Role → Count → List ℕ
why_line from c = if c.seen == 0 || not (c.judged == 0) then [] else why_of from

abbrev pub frames_line : Role → Count → List ℕ
frames_line Dte c = codes "# dte: " ++ counted_text c (codes " frames, ") ++ why_line Dte c
frames_line Dce c = codes "# dce: " ++ counted_text c (codes " frames, ") ++ why_line Dce c

abbrev pub channel_of : Role → Count → List ℕ
channel_of Dte c = codes "# dte channel " ++ decimal c.channel ++ codes ": "
channel_of Dce c = codes "# dce channel " ++ decimal c.channel ++ codes ": "

abbrev pub packets_line : Role → Count → List ℕ
packets_line from c = if c.seen == 0 then [] else channel_of from c ++ counted_text c (codes " packets, ")

-- the lines on an end: its frames, and its packets on each channel on which there were any
abbrev pub end_text : Role → Count → List Count → List ℕ
end_text from frames packets = frames_line from frames ++ flat_map (packets_line from) packets

abbrev pub doubts_text : ℕ → List ℕ
doubts_text count = if count == 0 then [] else codes ", " ++ decimal count ++ codes " in doubt"

-- the line on all that was told
abbrev pub tally_line : Tally → List ℕ
tally_line t = codes "# told: " ++ decimal t.rules ++ codes " rules, " ++ decimal t.manners
    ++ codes " manners" ++ doubts_text t.doubts ++ codes "\n"

abbrev pub line_text : Line → List ℕ
line_text (Frames from c) = frames_line from c
line_text (Packets from c) = packets_line from c
line_text (Told t) = tally_line t
line_text Nothing = codes "# nothing was judged: no line has a frame in hexadecimal digits\n"
line_text Unjudged = codes "# nothing was judged: the trace shows no set-up of the link\n"
