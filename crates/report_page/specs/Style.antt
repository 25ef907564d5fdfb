-- The style sheet of the page: proved in green, unknown in red.
use Rattle.std.specs.Prelude.{ℕ, List, codes, ◌++◌}

unfoldable pub style : List ℕ
style =
    codes "\nbody{font:14px sans-serif;margin:1em}\n"
    ++ codes "table{border-collapse:collapse;margin:0 0 1em}\n"
    ++ codes "th,td{padding:0 1em 0 0;text-align:left;vertical-align:top}\n"
    ++ codes "td{font-family:monospace;white-space:pre-wrap}\n"
    ++ codes "div{width:max-content;min-width:100%}\n"
    ++ codes "code{font-family:monospace;white-space:pre;tab-size:8}\n"
    ++ codes "span{display:inline-block;width:5em;margin:0 1em 0 0;text-align:right;color:#777}\n"
    ++ codes "details{margin:0 0 .5em 6em}\n"
    ++ codes ".proved{background:#dfd}\n"
    ++ codes ".unknown{background:#fdd}\n"
