-- Worked scripts of the simulator: what is written for each, and the status.
use Rattle.std.specs.Prelude.{◌≡◌, ℕ, Bool, true, false, List, [], ◌++◌, codes}
use Rattle.x25_layer.specs.Ranges.{two_way}
use Rattle.x25_station.specs.declared.config.Cfg.{Cfg}
use Rattle.x25_sim.specs.Stage.{sim_text, sim_status}
use Rattle.x25_sim.specs.declared.stage.Shown.{Shown}

abbrev pub usual : Cfg
usual = record { k = 7; n2 = 10; channels = two_way 1; long_data = false; say_sizes = false; wide = false }

abbrev pub narrow : Cfg
narrow = record { k = 1; n2 = 10; channels = two_way 1; long_data = false; say_sizes = false; wide = false }

abbrev pub once : Cfg
once = record { k = 7; n2 = 1; channels = two_way 1; long_data = false; say_sizes = false; wide = false }

-- what is written as both links come up, and as a call is opened; the lines that ask for the latter
abbrev pub links_up : List ℕ
links_up = codes "dce linkup\ndte linkup\ndce restarted cause=0 diag=0\ndte restarted cause=7 diag=0\n"

abbrev pub call_open : List ℕ
call_open = codes "dte call ch=1 at 1.0.0 called=1 calling=2 data=-\n"
    ++ codes "dce incoming ch=1 at 1.0.0 called=1 calling=2 data=-\ndce accept ch=1\ndte connected ch=1\n"

abbrev pub opening : List ℕ
opening = codes "drain 100\ndte call 1 2 -\ndrain 100\ndce accept 1\ndrain 100\n"

abbrev pub Shows : Cfg → Bool → Shown → List ℕ → List ℕ → ℕ → Type 0
Shows cfg down shown script text status = (sim_text cfg down shown script ≡ text)
    × (sim_status cfg down shown script ≡ status)

-- whether both links are down at first, whether frames are asked for, a script, what is written for it, and the status
abbrev pub Simulates : Cfg → Bool → Bool → List ℕ → List ℕ → ℕ → Type 0
Simulates cfg down tap script text status = Shows cfg down (record { tap = tap; events = false }) script text status

-- links come up
abbrev pub LinksComeUp : Type 0
LinksComeUp = Simulates usual false false [] (codes "dce linkup\ndte linkup\n") 0

-- and with the frames
abbrev pub FramesAreWritten : Type 0
FramesAreWritten = Simulates usual false true []
    (codes "> 013febdf\ndce linkup\n< 01738357\n< 03001000fb0700c478\ndte linkup\n> 01001000fb00007702\n") 0

-- with the events, of which two are refused, and a line that is none
abbrev pub EventsAreTold : Type 0
EventsAreTold = Shows usual false (record { tap = false; events = true })
    (codes "deliver >\nx\nlose > 0\nt1 dte\ndte call 1 2 -\n")
    (codes "dce linkup\n. deliver >\ndte linkup\n. deliver <\ndce restarted cause=0 diag=0\n"
    ++ codes ". deliver >\n? 60\n! 51\n. lose > 0\n. t1 dte\n! 40\n. dte asks\n") 1

-- timer T1 runs out twice where N2 is 1, and a call finds the link down
abbrev pub LinkGoesDown : Type 0
LinkGoesDown = Simulates once false false (codes "lose > 0\nt1 dte\nt1 dte\ndte call 1 2 -\n")
    (codes "dce linkup\ndte linkup\ndte linkdown retries\n! 9\n") 1

-- damage that isn't seen, a place that isn't there, and a delivery from an empty line
abbrev pub DamageIsSeen : Type 0
DamageIsSeen = Simulates usual false false
    (codes "damage > 0 013febdf\ndamage > 1 00\ndamage > 0 00\ndeliver >\ndeliver >\nt1 dte\ndrain 100\n")
    (codes "dce linkup\ndte linkup\n! 52\n! 51\n! 50\ndte restarted cause=7 diag=0\ndce restarted cause=0 diag=0\n") 1

-- two calls collide, and both are cleared
abbrev pub CallsCollide : Type 0
CallsCollide = Simulates usual false false
    (codes "drain 100\ndte call 1 2 -\ndce call 3 4 -\ndrain 100\ndte clear 1\ndce clear 1\ndrain 100\n")
    (links_up ++ codes "dte call ch=1 at 1.0.0 called=1 calling=2 data=-\n"
    ++ codes "dce call ch=1 at 1.0.0 called=3 calling=4 data=-\ndce collided ch=1\n"
    ++ codes "dce incoming ch=1 at 1.0.0 called=1 calling=2 data=-\ndte clear ch=1\ndce clear ch=1\n"
    ++ codes "dce cleardone ch=1\ndte cleardone ch=1\n") 0

-- a line that isn't in the grammar
abbrev pub OtherLinesAreRefused : Type 0
OtherLinesAreRefused = Simulates usual false false (codes "dte call 1 2\n\n")
    (codes "dce linkup\ndte linkup\n? 60\n? 60\n") 1

-- a call and two messages
abbrev pub MessagesArrive : Type 0
MessagesArrive = Simulates usual false false
    (codes "drain 100\ndte call 123 4567 41\ndrain 100\ndce accept 1\ndrain 100\ndte send 1 0 6869\n"
    ++ codes "dte send 1 0 -\ndrain 100\n")
    (links_up ++ codes "dte call ch=1 at 1.0.0 called=123 calling=4567 data=41\n"
    ++ codes "dce incoming ch=1 at 1.0.0 called=123 calling=4567 data=41\ndce accept ch=1\n"
    ++ codes "dte connected ch=1\ndte send ch=1 at 1.0.0 q=0 data=6869\n"
    ++ codes "dte send ch=1 at 1.0.0 q=0 data=-\ndce message ch=1 at 1.0.0 q=0 data=6869\n"
    ++ codes "dce message ch=1 at 1.0.0 q=0 data=-\n") 0

-- a channel is reset, and a message comes in the next stretch
abbrev pub ResetIsDone : Type 0
ResetIsDone = Simulates usual false false
    (codes "drain 100\ndte call 123 4567 41\ndrain 100\ndce accept 1\ndrain 100\ndte reset 1\n"
    ++ codes "drain 100\ndte send 1 0 61\ndrain 100\n")
    (links_up ++ codes "dte call ch=1 at 1.0.0 called=123 calling=4567 data=41\n"
    ++ codes "dce incoming ch=1 at 1.0.0 called=123 calling=4567 data=41\ndce accept ch=1\n"
    ++ codes "dte connected ch=1\ndte reset ch=1\ndce wasreset ch=1 cause=0 diag=0\ndte resetdone ch=1\n"
    ++ codes "dte send ch=1 at 1.0.1 q=0 data=61\ndce message ch=1 at 1.0.1 q=0 data=61\n") 0

-- a restart, in which no call is taken
abbrev pub RestartIsDone : Type 0
RestartIsDone = Simulates usual false false
    (codes "drain 100\ndte restart\ndte call 1 2 -\ndrain 100\ndte call 1 2 -\n")
    (links_up ++ codes "dte restart\n! 40\ndce restarted cause=0 diag=0\ndte restartdone\n"
    ++ codes "dte call ch=1 at 2.0.0 called=1 calling=2 data=-\n") 1

-- the link is disconnected, for good
abbrev pub BothEndsGoDown : Type 0
BothEndsGoDown = Simulates usual false false (codes "drain 100\ndte disconnect\ndrain 100\ndte disconnect\n")
    (links_up ++ codes "dte disconnect\ndte linkdown local\ndce linkdown disc\n! 13\n") 1

-- the link is set up in the script, and timer T1 doesn't run out while SABM is on the line
abbrev pub LinkIsSetUp : Type 0
LinkIsSetUp = Simulates usual true false (codes "dte connect\nt1 dte\ndrain 100\n")
    (codes "dte connect\n! 54\ndce linkup\ndte linkup\ndce restarted cause=0 diag=0\ndte restarted cause=7 diag=0\n") 1

-- a UA is lost, and SABM goes again by timer T1
abbrev pub LostUaComesAgain : Type 0
LostUaComesAgain = Simulates usual true false (codes "dte connect\ndeliver >\nlose < 0\nt1 dte\ndrain 100\n")
    (codes "dte connect\ndce linkup\ndce linkdown reset\ndce linkup\ndte linkup\n"
    ++ codes "dce restarted cause=0 diag=0\ndte restarted cause=7 diag=0\n") 0

-- a link that went down by retries is set up again
abbrev pub LinkIsSetUpAgain : Type 0
LinkIsSetUpAgain = Simulates once false false (codes "lose > 0\nt1 dte\nt1 dte\ndte connect\ndrain 100\n")
    (codes "dce linkup\ndte linkup\ndte linkdown retries\ndte connect\ndce linkdown reset\ndce linkup\n"
    ++ codes "dte linkup\ndce restarted cause=0 diag=0\ndte restarted cause=7 diag=0\n") 0

-- a message whose frame was lost arrives, and T1 stops at the other end too
abbrev pub LostFrameArrives : Type 0
LostFrameArrives = Simulates usual false false
    (opening ++ codes "dte send 1 0 61\nlose > 0\nheal\nt1 dte\nt1 dce\n")
    (links_up ++ call_open
    ++ codes "dte send ch=1 at 1.0.0 q=0 data=61\ndce message ch=1 at 1.0.0 q=0 data=61\n! 11\n! 11\n") 1

-- both ends have lost a frame, and one of them a poll
abbrev pub BothEndsHeal : Type 0
BothEndsHeal = Simulates usual false false
    (opening ++ codes "dte send 1 0 61\ndce send 1 0 62\nlose > 0\nlose < 0\nt1 dte\nlose > 0\nheal\n")
    (links_up ++ call_open ++ codes "dte send ch=1 at 1.0.0 q=0 data=61\ndce send ch=1 at 1.0.0 q=0 data=62\n"
    ++ codes "dce message ch=1 at 1.0.0 q=0 data=61\ndte message ch=1 at 1.0.0 q=0 data=62\n") 0

-- a message waits in its circuit with nothing on the line
abbrev pub WaitingMessageIsPulled : Type 0
WaitingMessageIsPulled = Simulates narrow false false
    (opening
    ++ codes "dte ready 1\ndte ready 1\ndte ready 1\ndte ready 1\ndte ready 1\ndte ready 1\ndte ready 1\n"
    ++ codes "dte ready 1\ndte ready 1\ndte send 1 0 61\ndrain 100\nheal\n")
    (links_up ++ call_open
    ++ codes "dte ready ch=1\ndte ready ch=1\ndte ready ch=1\ndte ready ch=1\ndte ready ch=1\n"
    ++ codes "dte ready ch=1\ndte ready ch=1\ndte ready ch=1\ndte ready ch=1\n"
    ++ codes "dte send ch=1 at 1.0.0 q=0 data=61\ndce message ch=1 at 1.0.0 q=0 data=61\n") 0

-- there is nothing to do where both links are down, and nothing is refused
abbrev pub LinksThatAreDownHeal : Type 0
LinksThatAreDownHeal = Simulates usual true false (codes "heal\n") [] 0
