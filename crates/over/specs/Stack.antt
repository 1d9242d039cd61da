-- The layers of a stack, as they are stored.
use Rattle.entry.specs.declared.slice.Stored.{Stored}
use Rattle.over.specs.declared.stack.Stack.{Stack}

abbrev pub lower_of : Stack → Stored
lower_of s = record { c = s.c; m = s.mr; numbers = s.r; held = s.lower_held }

abbrev pub upper_of : Stack → Stored
upper_of s = record { c = s.c; m = s.mw; numbers = s.w; held = s.upper_held }
